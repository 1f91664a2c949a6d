-- Laws of tests put together and of a number between two; and going by the cases of a test.
-- Assumes nothing.
use Prim.Native.Nat.{ℕ, ◌≤◌, ◌<◌}
use mathlib.Core.Path.{◌≡◌, refl}
use mathlib.Core.Bool.{Bool, true, false, cond, ◌&&◌, ◌||◌}
use lib.Dec.{leb, ltb}
use borrow.Author.Tests.{leb-true, le-leb, lt-leb, ltb-true, ltb-false}
use Rattle.base.specs.Tests.{implies, same, within}

-- what holds of each answer, where the test picks it, holds of the one picked
pub by_test : {A : Type 0} (P : A → Type 0) (b : Bool) (x y : A) → (b ≡ true → P x) → (b ≡ false → P y) → P (cond b x y)
by_test P true x y p q = p refl
by_test P false x y p q = q refl

-- what holds of both answers holds of the one picked
pub cond_both : {A : Type 0} (P : A → Type 0) (b : Bool) (x y : A) → P x → P y → P (cond b x y)
cond_both P true x y p q = p
cond_both P false x y p q = q

pub cond_same : {A : Type 0} (b : Bool) (x y z : A) → (b ≡ false → y ≡ z) → cond b x y ≡ cond b x z
cond_same true x y z e = refl
cond_same false x y z e = e refl

pub by_bool : {A : Type 0} (b : Bool) → (b ≡ true → A) → (b ≡ false → A) → A
by_bool true p q = p refl
by_bool false p q = q refl

-- below n, or not
pub split : {A : Type 0} (m n : ℕ) → (m < n → A) → (n ≤ m → A) → A
split m n p q = by_bool (ltb m n) (λ e. p (ltb-true m n e)) (λ e. q (ltb-false m n e))

pub and_l : (a b : Bool) → a && b ≡ true → a ≡ true
and_l true b e = refl
and_l false b e = e

pub and_r : (a b : Bool) → a && b ≡ true → b ≡ true
and_r true b e = e
and_r false b e = let z : false ≡ true = e in bad z
  where
    bad : {b : Bool} → false ≡ true → b ≡ true
    bad z = cc

pub and_yes : {a b : Bool} → a ≡ true → b ≡ true → a && b ≡ true
and_yes p q = cc (p, q)

pub within_lo : (lo hi b : ℕ) → within lo hi b ≡ true → lo ≤ b
within_lo lo hi b e = leb-true lo b (and_l (leb lo b) (leb b hi) e)

pub within_hi : (lo hi b : ℕ) → within lo hi b ≡ true → b ≤ hi
within_hi lo hi b e = leb-true b hi (and_r (leb lo b) (leb b hi) e)

pub within_yes : (lo hi b : ℕ) → lo ≤ b → b ≤ hi → within lo hi b ≡ true
within_yes lo hi b h k = rw (le-leb lo b h, le-leb b hi k)

pub within_below : (lo hi b : ℕ) → b < lo → within lo hi b ≡ false
within_below lo hi b h = rw (lt-leb lo b h)

pub within_above : (lo hi b : ℕ) → lo ≤ b → hi < b → within lo hi b ≡ false
within_above lo hi b h k = rw (le-leb lo b h, lt-leb b hi k)

-- what tests put together say of their parts
pub same_true : (a b : Bool) → same a b ≡ true → a ≡ b
same_true true true h = refl
same_true true false h = cc
same_true false true h = cc
same_true false false h = refl

pub implies_true : (a b : Bool) → implies a b ≡ true → a ≡ true → b ≡ true
implies_true true b h e = h
implies_true false b h e = cc

pub or_l : (a b : Bool) → a || b ≡ true → b ≡ false → a ≡ true
or_l true b h e = refl
or_l false b h e = cc
