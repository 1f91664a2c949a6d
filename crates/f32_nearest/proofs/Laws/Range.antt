-- The bits of the values from 1/8 to 1: `narrowable_bits`. In parts of 2 ^ -1074 such a value has 1072 to 1075 binary digits.
-- Assumes nothing.
use Prim.Native.Nat.{ℕ, ◌+◌, ◌-◌, ◌*◌, ◌/◌, ◌^◌, ◌≤◌, ◌<◌}
use mathlib.Core.Path.{◌≡◌, refl, subst}
use mathlib.Core.Logic.{◌⊎◌, inl, inr}
use mathlib.Core.Bool.{true, false}
use native.Mathlib.Nat.{mul-pos, mul-le-mul_right, div-lt_iff_lt-mul, le-div_iff_mul-le, lt_of_lt_of_le, lt_of_not-le, not-le_of_lt}
use native.Mathlib.Omega.{arith}
use lib.Dec.{T}
use lib.Pow.{pow_pos, pow_mono, shr_lt}
use lib.Ieee.{Float, nan, inf, fin, binary64, up, down, size, to_bits}
use lib.Ieee.Digits.{size-lt, size-le}
use lib.Ieee.Fits.{down_pos}
use lib.Ieee.Positive.{num, den, positive, between, own_value, values_of_le}
use Rattle.f32_nearest.proofs.Laws.Fields.{F64_FIELD, F64_DIGITS, LEAST, ABOVE}
use Rattle.f32_nearest.specs.Inner.Nearest.{Narrowable, EIGHTH, ONE}

size_gt : (n j : ℕ) → 2 ^ j ≤ n → j < size n
size_gt n j h = lt_of_not-le (λ g. not-le_of_lt (lt_of_lt_of_le (size-lt n) (pow_mono g)) h)

-- a size z and digits t that are kept, as bits
number : (z t : ℕ) → 1071 < z → z ≤ 1075 → t < F64_DIGITS → (LEAST ≤ (z - 53) * F64_FIELD + t) × ((z - 53) * F64_FIELD + t < ABOVE)
number z t a b h = (omega arith, omega arith)

within : (n : ℕ) → 2 ^ 1071 ≤ n → n < 2 ^ 1075
    → (LEAST ≤ (size n - 53) * F64_FIELD + n / 2 ^ (size n - 53)) × ((size n - 53) * F64_FIELD + n / 2 ^ (size n - 53) < ABOVE)
within n lo hi =
    let g : 1071 < size n = size_gt n 1071 lo in
    let s : n < 2 ^ (53 + (size n - 53)) = subst (λ (z : ℕ). n < 2 ^ z) (back g) (size-lt n) in
    number (size n) (n / 2 ^ (size n - 53)) g (size-le n 1075 hi) (shr_lt 53 (size n - 53) s)
  where
    back : {z : ℕ} → 1071 < z → z ≡ 53 + (z - 53)
    back h = omega arith

eighth : (p D N : ℕ) → D ≤ N * 8 → p * D ≤ N * (8 * p)
eighth p D N h = omega (arith, mul-le-mul_right p h)

once : (P D N : ℕ) → 0 < P → 0 < D → N ≤ D → N * P < 2 * P * D
once P D N p q h = omega (arith, mul-le-mul_right P h, mul-pos p q)

range : (x : Float) → T (positive x) → den x ≤ num x * 8 → num x ≤ den x → (LEAST ≤ to_bits binary64 x) × (to_bits binary64 x < ABOVE)
unfolding to_bits
range nan p a b = absurd p
range (inf s) p a b = absurd p
range (fin true m e) p a b = absurd p
range (fin false m e) p a b =
    let lo : 2 ^ 1071 ≤ m * up e * 2 ^ 1074 / down e = (le-div_iff_mul-le (down_pos e)).1 (eighth (2 ^ 1071) (down e) (m * up e) a) in
    let hi : m * up e * 2 ^ 1074 / down e < 2 ^ 1075 =
    (div-lt_iff_lt-mul (down_pos e)).1 (once (2 ^ 1074) (down e) (m * up e) (pow_pos 1074) (down_pos e) b) in
    let k = within (m * up e * 2 ^ 1074 / down e) lo hi in
    (omega (arith, k.0), omega (arith, k.1))

pub narrowable_bits : (x : Float) → Narrowable x → (to_bits binary64 x ≡ 0) ⊎ ((LEAST ≤ to_bits binary64 x) × (to_bits binary64 x < ABOVE))
unfolding to_bits
narrowable_bits x (inl e) = inl (rw e)
narrowable_bits x (inr (a, b)) =
    let p : T (positive x) = between EIGHTH x ONE tt tt a b in
    let v = own_value x p in
    let l : 1 * den x ≤ num x * 8 = values_of_le EIGHTH x 1 8 (num x) (den x) tt p (refl, refl) v a in
    let h : num x * 1 ≤ 1 * den x = values_of_le x ONE (num x) (den x) 1 1 p tt v (refl, refl) b in
    inr (range x p (omega arith) (omega arith))
