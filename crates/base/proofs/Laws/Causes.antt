-- Laws of the causes: none and one alone (`no_cause`, `first_one`); what one more in front changes (`first_refused`, `first_given`,
-- `first_passed`, `first_on`), what an allowed call has (`first_free`, `given_free`) and the other way round (`free_first`, `free_given`); that
-- a refusal is not allowed (`never`); what a `?` hands on (`handed_on`); and what two lists of causes one after the other give (`first_front`, `first_past`).
-- Assumes nothing.
use Prim.Native.Nat.{ℕ}
use mathlib.Core.Path.{◌≡◌, refl, sym, ap, ◌∙◌}
use mathlib.Core.Bool.{Bool, true, false}
use mathlib.Core.List.{List, [], ◌∷◌, ◌++◌}
use native.Mathlib.Omega.{arith}
use Rattle.std.specs.Prelude.{Result, Ok, Err, IsErrAnd, ⊤}
use Rattle.base.specs.declared.Refusal.{Refusal}
use Rattle.base.specs.declared.refusals.Cause.{Cause}
use Rattle.base.specs.Causes.{refused_at, given, first_of}

-- a refusal is not allowed
pub never : {A : Type 0} (r : Refusal) → ◌≡◌ {A = Result ⊤ Refusal} (Err r) (Ok tt) → A
never r e = absurd (no (told r e))
  where
    told : (r : Refusal) → ◌≡◌ {A = Result ⊤ Refusal} (Err r) (Ok tt) → ◌≡◌ {A = ℕ} 0 1
    told r e = cc

    no : ◌≡◌ {A = ℕ} 0 1 → ⊥
    no z = omega arith

-- what a `?` hands on is the refusal that it found
pub handed_on : {T : Type 0} (r : Result T Refusal) (e : Refusal) → IsErrAnd r (λ q. q ≡ e) → r ≡ Err e
handed_on (Ok x) e h = absurd h
handed_on (Err q) e h = ap Err h

-- ---- none, and one alone
-- of no causes there is no first
pub no_cause : first_of [] ≡ Ok tt
unfolding first_of
no_cause = refl

-- one cause alone
pub first_one : (c : Result ⊤ Refusal) → first_of (c ∷ []) ≡ c
unfolding first_of
first_one (Ok u) = refl
first_one (Err r) = refl

-- ---- one law for each return
pub given_yes : (b : Bool) (cause : Cause) (place : ℕ) → b ≡ true → given b cause place ≡ refused_at cause place
unfolding given
given_yes b cause place e = rw e

pub free_given : (b : Bool) (cause : Cause) (place : ℕ) → b ≡ false → given b cause place ≡ Ok tt
unfolding given
free_given b cause place e = rw e

module _ (cs : List (Result ⊤ Refusal)) where
  pub first_refused : (c : Result ⊤ Refusal) (r : Refusal) → c ≡ Err r → first_of (c ∷ cs) ≡ Err r
  unfolding first_of
  first_refused c r e = rw e

  -- nothing in front: the others decide
  pub first_on : (c : Result ⊤ Refusal) → c ≡ Ok tt → first_of (c ∷ cs) ≡ first_of cs
  unfolding first_of
  first_on c e = rw e

  pub first_given : (b : Bool) (cause : Cause) (place : ℕ) → b ≡ true → first_of (given b cause place ∷ cs) ≡ refused_at cause place
  unfolding first_of given refused_at
  first_given b cause place e = rw e

  pub first_passed : (b : Bool) (cause : Cause) (place : ℕ) → b ≡ false → first_of (given b cause place ∷ cs) ≡ first_of cs
  unfolding first_of given
  first_passed b cause place e = rw e

-- ---- where no cause is there
pub first_free : (c : Result ⊤ Refusal) (cs : List (Result ⊤ Refusal)) → first_of (c ∷ cs) ≡ Ok tt → (c ≡ Ok tt) × (first_of cs ≡ Ok tt)
unfolding first_of
first_free (Ok u) cs e = (refl, e)
first_free (Err r) cs e = never r e

pub free_first : (c : Result ⊤ Refusal) (cs : List (Result ⊤ Refusal)) → c ≡ Ok tt → first_of cs ≡ Ok tt → first_of (c ∷ cs) ≡ Ok tt
free_first c cs e f = first_on cs c e ∙ f

pub given_free : (b : Bool) (cause : Cause) (place : ℕ) → given b cause place ≡ Ok tt → b ≡ false
unfolding given refused_at
given_free true cause place e = never (record { cause = cause; place = place }) e
given_free false cause place e = refl

-- ---- two lists, one after the other
pub first_front : (cs ds : List (Result ⊤ Refusal)) (r : Refusal) → first_of cs ≡ Err r → first_of (cs ++ ds) ≡ Err r
unfolding first_of
first_front [] ds r e = never r (sym e)
first_front (Ok u ∷ cs) ds r e = first_front cs ds r e
first_front (Err q ∷ cs) ds r e = e

pub first_past : (cs ds : List (Result ⊤ Refusal)) → first_of cs ≡ Ok tt → first_of (cs ++ ds) ≡ first_of ds
unfolding first_of
first_past [] ds e = refl
first_past (Ok u ∷ cs) ds e = first_past cs ds e
first_past (Err q ∷ cs) ds e = never q e
