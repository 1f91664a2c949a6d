-- An element that stands in a list (`In`): at a place (`at_in`), in two lists joined, in a list's images (`in_map`); and that `among` is its test
-- (`among_in`, `in_among`).
-- Assumes nothing.
use Prim.Native.Nat.{ℕ, zero, suc, ◌+◌, ◌-◌, ◌≤◌, ◌<◌}
use mathlib.Core.Path.{◌≡◌, refl, sym, ap, ◌∙◌}
use mathlib.Core.Logic.{◌⊎◌, inl, inr}
use mathlib.Core.Bool.{Bool, true, false, ◌||◌}
use mathlib.Core.List.{List, [], ◌∷◌, ◌++◌, map}
use native.Mathlib.Nat.{le_of_suc-le-suc, not-suc-le-zero}
use native.Mathlib.Omega.{arith}
use lib.ListN.{length, get_or, take, drop, length-take, length-drop}
use lib.Seq.{get_or-take, get_or-drop}
use lib.Dec.{eqb}
use borrow.Author.Tests.{eq-eqb, eqb-true}
use Rattle.base.specs.Among.{among}
use Rattle.base.proofs.Laws.Tests.{by_bool}

module _ {A : Type 0} where
  abbrev pub In : A → List A → Type 0
  In x [] = ⊥
  In x (y ∷ l) = (x ≡ y) ⊎ In x l

  pub in_front : (x : A) (l m : List A) → In x l → In x (l ++ m)
  in_front x [] m h = absurd h
  in_front x (y ∷ l) m (inl e) = inl e
  in_front x (y ∷ l) m (inr h) = inr (in_front x l m h)

  pub in_last : (x : A) (l : List A) → In x (l ++ (x ∷ []))
  in_last x [] = inl refl
  in_last x (y ∷ l) = inr (in_last x l)

  pub in_either : (x : A) (l m : List A) → In x (l ++ m) → In x l ⊎ In x m
  in_either x [] m h = inr h
  in_either x (y ∷ l) m (inl e) = inl (inl e)
  in_either x (y ∷ l) m (inr h) = elim (in_either x l m h) [
    | inl i ↦ inl (inr i)
    | inr i ↦ inr i
  ]

  pub in_more : (x y : A) (l : List A) → In x (l ++ (y ∷ [])) → (x ≡ y) ⊎ In x l
  in_more x y l h = elim (in_either x l (y ∷ []) h) [
    | inl i ↦ inr i
    | inr (inl e) ↦ inl e
    | inr (inr z) ↦ absurd z
  ]

or_true : (a : Bool) → (a || true) ≡ true
or_true true = refl
or_true false = refl

-- the test and the relation
pub in_among : (x : ℕ) (l : List ℕ) → In x l → among x l ≡ true
unfolding among
in_among x [] i = absurd i
in_among x (y ∷ ys) (inl e) = rw (eq-eqb y x (sym e))
in_among x (y ∷ ys) (inr i) = rw (in_among x ys i) (or_true (eqb y x))

pub among_in : (x : ℕ) (l : List ℕ) → among x l ≡ true → In x l
unfolding among
among_in x [] e = let z : ◌≡◌ {A = ℕ} 0 1 = cc in absurd (omega arith)
among_in x (y ∷ ys) e =
    by_bool (eqb y x)
    (λ h. inl (sym (eqb-true y x h)))
    (λ h. inr (among_in x ys (rw h at e)))

-- a letter that stands somewhere is among them
among_at : (x : ℕ) (l : List ℕ) (k : ℕ) → k < length l → get_or l k 0 ≡ x → among x l ≡ true
unfolding among
among_at x [] k h e = absurd (not-suc-le-zero h)
among_at x (y ∷ ys) zero h e = rw (eq-eqb y x e)
among_at x (y ∷ ys) (suc k) h e = rw (among_at x ys k (le_of_suc-le-suc h) e) (or_true (eqb y x))

-- one that is not among a part stands nowhere in it
pub among_none : (x : ℕ) (l : List ℕ) (s e : ℕ) → e ≤ length l → among x (take (e - s) (drop s l)) ≡ false → (k : ℕ) → s ≤ k → k < e → get_or l k 0 ≡ x → ⊥
among_none x l s e f h k a b p =
    let n : k - s < length (take (e - s) (drop s l)) = simp (length-take, length-drop) (omega arith) in
    let v : s + (k - s) ≡ k = omega arith in
    let q : get_or (take (e - s) (drop s l)) (k - s) 0 ≡ x =
    get_or-take (e - s) (drop s l) (k - s) 0 (omega arith) ∙ get_or-drop s l (k - s) 0 ∙ (rw v p) in
    let r : true ≡ false = sym (among_at x (take (e - s) (drop s l)) (k - s) n q) ∙ h in
    let z : ◌≡◌ {A = ℕ} 0 1 = cc in
    omega arith

pub at_in : {A : Type 0} (l : List A) (k : ℕ) (z : A) → k < length l → In (get_or l k z) l
at_in [] k z h = absurd (not-suc-le-zero h)
at_in (x ∷ l) zero z h = inl refl
at_in (x ∷ l) (suc k) z h = inr (at_in l k z (le_of_suc-le-suc h))

pub in_map : {A B : Type 0} (f : A → B) (l : List A) (x : A) → In x l → In (f x) (map f l)
in_map f [] x i = absurd i
in_map f (y ∷ l) x (inl e) = inl (ap f e)
in_map f (y ∷ l) x (inr i) = inr (in_map f l x i)
