-- Laws of `first` beyond base's: it is at or before every index at which the test holds (`first_least`); of two tests joined by "or" it is the lesser
-- of the two firsts (`either_left`, `either_right`); and it looks only at the indexes before its end (`first_same`).
-- Assumes nothing.
use Prim.Native.Nat.{ℕ, ◌≤◌, ◌<◌}
use mathlib.Core.Path.{◌≡◌, refl, sym, ◌∙◌}
use mathlib.Core.Bool.{Bool, true, false, ◌||◌}
use native.Mathlib.Omega.{arith}
use Rattle.base.specs.First.{first}
use Rattle.base.proofs.Laws.First.{first_is, first_none, first_before, first_found, first_within}
use Rattle.base.proofs.Laws.Tests.{split}

-- a test that holds and fails
pub clash : {A : Type 0} {b : Bool} → b ≡ true → b ≡ false → A
clash {A} {b} p q = absurd (no (told p q))
  where
    told : b ≡ true → b ≡ false → ◌≡◌ {A = ℕ} 0 1
    told p q = cc

    no : ◌≡◌ {A = ℕ} 0 1 → ⊥
    no z = omega arith

pub or_right : (a b : Bool) → b ≡ true → (a || b) ≡ true
or_right true b e = refl
or_right false b e = e

pub or_left : (a b : Bool) → a ≡ true → (a || b) ≡ true
or_left a b e = rw e

pub or_no_l : (a b : Bool) → (a || b) ≡ false → a ≡ false
or_no_l true b e = e
or_no_l false b e = refl

pub or_no_r : (a b : Bool) → (a || b) ≡ false → b ≡ false
or_no_r true b e = clash refl e
or_no_r false b e = e

pub or_none : (a b : Bool) → a ≡ false → b ≡ false → (a || b) ≡ false
or_none a b e f = rw (e, f)

module _ (f : ℕ → Bool) (n : ℕ) where
  pub first_least : (j : ℕ) → f j ≡ true → first f n ≤ j
  first_least j e = split j (first f n) (λ l. clash e (first_before f n j l)) (λ l. l)

  pub first_hits : (j : ℕ) → j < n → f j ≡ true → f (first f n) ≡ true
  first_hits j l e = first_found f n (omega (arith, first_least j e))

pub first_same : (f g : ℕ → Bool) (n : ℕ) → ((j : ℕ) → j < n → f j ≡ g j) → first f n ≡ first g n
first_same f g n h =
    split (first g n) n
    (λ l. first_is f n (first g n) l (h (first g n) l ∙ first_found g n l) (λ j m. h j (omega arith) ∙ first_before g n j m))
    (λ l. first_none f n (λ j m. h j m ∙ first_before g n j (omega arith)) ∙ whole (first g n) l (first_within g n))
  where
    whole : (m : ℕ) → n ≤ m → m ≤ n → n ≡ m
    whole m a b = omega arith

module _ (f g : ℕ → Bool) (n : ℕ) where
  pub either_left : first f n < first g n → first f n ≡ first (λ i. f i || g i) n
  either_left h =
      let l : first f n < n = omega (arith, first_within g n) in
      sym (first_is (λ i. f i || g i) n (first f n) l (or_left (f (first f n)) (g (first f n)) (first_found f n l))
      (λ j m. or_none (f j) (g j) (first_before f n j m) (first_before g n j (omega arith))))

  pub either_right : first g n ≤ first f n → first g n ≡ first (λ i. f i || g i) n
  either_right h =
      split (first g n) n
      (λ l. sym (first_is (λ i. f i || g i) n (first g n) l (or_right (f (first g n)) (g (first g n)) (first_found g n l))
      (λ j m. or_none (f j) (g j) (first_before f n j (omega arith)) (first_before g n j m))))
      (λ l. whole (first g n) l (first_within g n)
      ∙ sym (first_none (λ i. f i || g i) n (λ j m. or_none (f j) (g j) (first_before f n j (omega arith)) (first_before g n j (omega arith)))))
    where
      whole : (m : ℕ) → n ≤ m → m ≤ n → m ≡ n
      whole m a b = omega arith
