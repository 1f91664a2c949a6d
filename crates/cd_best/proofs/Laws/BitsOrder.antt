-- Of two f32 that are finite and have no minus sign, one is below the other exactly where its bits are the lesser number: `lt_bits`. So two that are
-- each at most the other are the same (`le_both`). 149 and 24 are binary32's `low` and `prec`.
-- Assumes nothing.
use Prim.Native.Nat.{ℕ, ◌+◌, ◌-◌, ◌*◌, ◌/◌, ◌^◌, ◌≤◌, ◌<◌}
use mathlib.Core.Path.{◌≡◌, sym, ap, ◌∙◌, subst}
use mathlib.Core.Logic.{inl, inr}
use mathlib.Core.Bool.{true, false, not, true≢false}
use native.Mathlib.Nat.{le_of_eq, le_trans, eq-or-lt_of_le, le_refl, le_of_lt, lt_of_le_of_lt, mul-lt-mul_of_pos_right, mul-le-mul_right}
use native.Mathlib.Nat.{mul-div_cancel, le-div_iff_mul-le, le_antisymm, le_of_mul-le-mul_right}
use native.Mathlib.Omega.{arith}
use lib.Arith.{lt_of_le-ne}
use lib.Dec.{T, ltb, leb}
use lib.Pow.{pow-add, pow_pos, shr_mono}
use lib.Ieee.{Float, nan, inf, fin, binary32, fits, up, down, size, to_bits, of_bits, le, lt}
use lib.Ieee.Bits.{of_bits-to_bits}
use lib.Ieee.Digits.{size-lt, size-le, size_reaches}
use lib.Ieee.Exact.{HasValue}
use lib.Ieee.Fits.{down_pos, kept-lt}
use borrow.Author.Tests.{ltb-true, lt-ltb, le-ltb, leb-true, le-leb, lt-leb}
use Rattle.base.proofs.Laws.Tests.{split}
use Rattle.ratio.proofs.Laws.Comparing.{lt_not_le}
use Rattle.ratio.specs.Inner.Finite.{Plain}
use Rattle.ratio.specs.Parts.{ONE}
use Rattle.cd_best.proofs.Laws.Scores.{le_parts}

-- the bits of n parts of 2 ^ -149: the 24 leading digits of n, and how many were dropped
abbrev dropped : ℕ → ℕ
dropped n = size n - 24

abbrev written : ℕ → ℕ
written n = dropped n * 2 ^ 23 + n / 2 ^ dropped n

bits_of : (x : Float) (n : ℕ) → HasValue x false n ONE → to_bits binary32 x ≡ written n
unfolding to_bits
bits_of nan n v = absurd v
bits_of (inf s) n v = absurd v
bits_of (fin s m e) n v =
    let k : m * up e * 2 ^ 149 / down e ≡ n = ap (λ (z : ℕ). z / down e) v.1 ∙ mul-div_cancel n (down_pos e) in
    rw (v.0, k) (omega arith)

-- more parts have no lesser bits
size_grows : (a b : ℕ) → a ≤ b → size a ≤ size b
size_grows a b h = size-le a (size b) (lt_of_le_of_lt h (size-lt b))

leading : (b : ℕ) → 0 < dropped b → 2 ^ 23 ≤ b / 2 ^ dropped b
leading b h =
    let s : 23 + dropped b < size b = omega arith in
    (le-div_iff_mul-le (pow_pos (dropped b))).1 (le_trans (le_of_eq (sym (pow-add 2 23 (dropped b)))) (size_reaches b (23 + dropped b) s))

written_grows : (a b : ℕ) → a ≤ b → written a ≤ written b
written_grows a b h =
    elim (eq-or-lt_of_le (fewer (size a) (size b) (size_grows a b h))) [
      | inl e ↦ same (dropped a) (dropped b) e
      | inr l ↦ more (dropped a) (dropped b) (a / 2 ^ dropped a) (b / 2 ^ dropped b) l (kept-lt 24 a) (leading b (some l))
    ]
  where
    fewer : (s t : ℕ) → s ≤ t → s - 24 ≤ t - 24
    fewer s t h = omega arith

    some : {i j : ℕ} → i < j → 0 < j
    some l = omega arith

    same : (i j : ℕ) → i ≡ j → i * 2 ^ 23 + a / 2 ^ i ≤ j * 2 ^ 23 + b / 2 ^ j
    same i j e = rw e (step (j * 2 ^ 23) (a / 2 ^ j) (b / 2 ^ j) (shr_mono j h))
      where
        step : (k p q : ℕ) → p ≤ q → k + p ≤ k + q
        step k p q l = omega arith

    more : (i j p q : ℕ) → i < j → p < 2 ^ 24 → 2 ^ 23 ≤ q → i * 2 ^ 23 + p ≤ j * 2 ^ 23 + q
    more i j p q l m n = omega arith

module _ (x y : Float) (p : Plain x) (q : Plain y) where
  -- by the parts
  lt_parts : lt x y ≡ not (leb (q.size * ONE) (p.size * ONE))
  lt_parts = lt_not_le x y p.is_finite_holds q.is_finite_holds ∙ ap not (le_parts y x q p)

  lt_more : p.size < q.size → lt x y ≡ true
  lt_more h = lt_parts ∙ ap not (lt-leb _ _ (mul-lt-mul_of_pos_right h (pow_pos 149)))

  lt_less : q.size ≤ p.size → lt x y ≡ false
  lt_less h = lt_parts ∙ ap not (le-leb _ _ (mul-le-mul_right ONE h))

bits_grow : (x y : Float) (p : Plain x) (q : Plain y) → p.size ≤ q.size → to_bits binary32 x ≤ to_bits binary32 y
bits_grow x y p q h = rw (bits_of x p.size p.value, bits_of y q.size q.value) (written_grows p.size q.size h)

-- a number is not below itself
lt_self : (x : Float) → Plain x → lt x x ≡ false
lt_self x p = lt_less x x p p (le_refl p.size)

module _ (x y : Float) (p : Plain x) (q : Plain y) (f : fits binary32 x ≡ true) (g : fits binary32 y ≡ true) where
  -- of the same bits there is one f32
  same_bits : to_bits binary32 x ≡ to_bits binary32 y → x ≡ y
  same_bits e = sym (of_bits-to_bits binary32 x (subst T (sym f) tt)) ∙ ap (of_bits binary32) e ∙ of_bits-to_bits binary32 y (subst T (sym g) tt)

  -- the two have different bits
  apart : lt x y ≡ true → to_bits binary32 x ≡ to_bits binary32 y → ⊥
  apart h e = true≢false (sym h ∙ ap (λ (z : Float). lt x z) (sym (same_bits e)) ∙ lt_self x p)

  pub lt_bits : lt x y ≡ ltb (to_bits binary32 x) (to_bits binary32 y)
  lt_bits =
      split p.size q.size
      (λ l. lt_more x y p q l ∙ sym (lt-ltb _ _ (lt_of_le-ne (bits_grow x y p q (le_of_lt l)) (apart (lt_more x y p q l)))))
      (λ l. lt_less x y p q l ∙ sym (le-ltb _ _ (bits_grow y x q p l)))

-- not both ways
pub lt_once : (x y : Float) → Plain x → Plain y → fits binary32 x ≡ true → fits binary32 y ≡ true → lt y x ≡ true → lt x y ≡ false
lt_once x y p q f g e =
    lt_bits x y p q f g ∙ le-ltb (to_bits binary32 x) (to_bits binary32 y) (le_of_lt (ltb-true _ _ (sym (lt_bits y x q p g f) ∙ e)))

pub le_both : (x y : Float) → Plain x → Plain y → fits binary32 x ≡ true → fits binary32 y ≡ true → le x y ≡ true → le y x ≡ true → x ≡ y
le_both x y p q f g a b =
    let m : p.size ≤ q.size = le_sizes x y p q a in
    let n : q.size ≤ p.size = le_sizes y x q p b in
    same_bits x y p q f g (le_antisymm (bits_grow x y p q m) (bits_grow y x q p n))
  where
    le_sizes : (x y : Float) (p : Plain x) (q : Plain y) → le x y ≡ true → p.size ≤ q.size
    le_sizes x y p q a = le_of_mul-le-mul_right {k = ONE} (leb-true (p.size * ONE) (q.size * ONE) (sym (le_parts x y p q) ∙ a)) (pow_pos 149)
