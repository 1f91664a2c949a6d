-- Laws of a count or a refusal: what an answer tells of the cause (`count_allowed`, `count_is`, `not_counted`) and what a cause makes of it
-- (`counted_allowed`, `counted_refused`, `counted_at`, `cause_counted`); what is left of a lent output (`after_allowed`, `after_refused`).
-- Assumes nothing.
use Prim.Native.Nat.{ℕ}
use mathlib.Core.Path.{◌≡◌, refl}
use mathlib.Core.List.{List}
use native.Mathlib.Omega.{arith}
use Rattle.std.specs.Prelude.{Result, Ok, Err, ⊤}
use Rattle.base.specs.declared.Refusal.{Refusal}
use Rattle.base.specs.declared.refusals.Cause.{Cause}
use Rattle.base.specs.Causes.{refused_at}
use Rattle.base.specs.Put.{put}
use Rattle.base.specs.Counted.{count_unless, lent_after}
use Rattle.base.specs.Inner.Counted.{cause_of}

-- a refusal is no count
pub never_counted : {A : Type 0} (r : Refusal) (n : ℕ) → Err r ≡ Ok n → A
never_counted r n e = absurd (no (told r n e))
  where
    told : (r : Refusal) (n : ℕ) → Err r ≡ Ok n → ◌≡◌ {A = ℕ} 0 1
    told r n e = cc

    no : ◌≡◌ {A = ℕ} 0 1 → ⊥
    no z = omega arith

pub counted_allowed : (c : Result ⊤ Refusal) (n : ℕ) → c ≡ Ok tt → count_unless c n ≡ Ok n
unfolding count_unless
counted_allowed c n e = rw e

pub counted_refused : (c : Result ⊤ Refusal) (n : ℕ) (r : Refusal) → c ≡ Err r → count_unless c n ≡ Err r
unfolding count_unless
counted_refused c n r e = rw e

-- a refusal is the same whatever was to be counted
pub counted_at : (c : Result ⊤ Refusal) (n : ℕ) (cause : Cause) (place : ℕ) → c ≡ refused_at cause place → refused_at cause place ≡ count_unless c n
unfolding count_unless refused_at
counted_at c n cause place e = rw e

pub cause_counted : (c : Result ⊤ Refusal) (n : ℕ) → cause_of (count_unless c n) ≡ c
unfolding count_unless cause_of
cause_counted (Ok u) n = refl
cause_counted (Err r) n = refl

pub count_allowed : (c : Result ⊤ Refusal) (m n : ℕ) → count_unless c m ≡ Ok n → c ≡ Ok tt
unfolding count_unless
count_allowed (Ok u) m n e = refl
count_allowed (Err r) m n e = never_counted r n e

pub count_is : (c : Result ⊤ Refusal) (m n : ℕ) → count_unless c m ≡ Ok n → n ≡ m
unfolding count_unless
count_is (Ok u) m n e = same e
  where
    same : ◌≡◌ {A = Result ℕ Refusal} (Ok m) (Ok n) → n ≡ m
    same f = cc
count_is (Err r) m n e = never_counted r n e

pub not_counted : (c : Result ⊤ Refusal) (m : ℕ) (r : Refusal) → count_unless c m ≡ Err r → c ≡ Err r
unfolding count_unless
not_counted (Ok u) m r e = let z : ◌≡◌ {A = ℕ} 0 1 = cc in absurd (omega arith)
not_counted (Err q) m r e = same e
  where
    same : ◌≡◌ {A = Result ℕ Refusal} (Err q) (Err r) → ◌≡◌ {A = Result ⊤ Refusal} (Err q) (Err r)
    same f = cc

-- what an answer that was returned tells of its cause
pub cause_of_count : (a : Result ℕ Refusal) (n : ℕ) → a ≡ Ok n → cause_of a ≡ Ok tt
unfolding cause_of
cause_of_count a n e = rw e

pub cause_of_refusal : (a : Result ℕ Refusal) (r : Refusal) → a ≡ Err r → cause_of a ≡ Err r
unfolding cause_of
cause_of_refusal a r e = rw e

module _ {A : Type 0} (l out : List A) where
  pub after_allowed : (c : Result ⊤ Refusal) → c ≡ Ok tt → lent_after c l out ≡ put out 0 l
  unfolding lent_after
  after_allowed c e = rw e

  pub after_refused : (c : Result ⊤ Refusal) (r : Refusal) → c ≡ Err r → lent_after c l out ≡ out
  unfolding lent_after
  after_refused c r e = rw e
