-- One rounding to an f32, in parts of 2 ^ -149: `grid binary32 a c` is the number of parts that a / c is rounded to. `grid_once`: in the
-- normal range it is off by one part in 2 ^ 24 at most. `grid_zero`, `grid_whole`: so is 0, and so is a whole number of parts, subnormal
-- ones too, which is what a sum of two f32 is.
-- Assumes nothing.
use Prim.Native.Nat.{ℕ, ◌+◌, ◌-◌, ◌*◌, ◌/◌, ◌^◌, ◌≤◌, ◌<◌}
use mathlib.Core.Path.{◌≡◌, refl, sym, ap, ◌∙◌, subst}
use mathlib.Core.Logic.{inl, inr}
use native.Mathlib.Nat.{mul-pos, mul-one, zero-mul, le-div_iff_mul-le, eq-zero-or-pos}
use native.Mathlib.Omega.{arith}
use lib.Pow.{pow-add, pow_pos}
use lib.Ieee.{size, binary32}
use lib.Ieee.Digits.{size_reaches}
use lib.Ieee.Order.{drop, kept}
use lib.Ieee.Scale.{grid, normal_of_fraction}
use Rattle.ratio.specs.Parts.{ONE}
use Rattle.ratio.proofs.Laws.Once.{Once, Half, once_cancel, closest_half, half_whole, half_once}

-- a number of 24 digits or more, of which k are dropped, is 2 ^ 23 units of 2 ^ k at least
enough : (n c : ℕ) → 0 < c → 24 ≤ size (n / c) → 2 ^ 23 * (c * 2 ^ drop 24 n c) ≤ n
enough n c C h =
    let k = drop 24 n c in
    let r : 2 ^ 23 * 2 ^ k * c ≤ n = subst (λ (z : ℕ). z * c ≤ n) (pow-add 2 23 k) ((le-div_iff_mul-le C).0 (size_reaches (n / c) (23 + k) (room (size (n / c)) h))) in
    omega arith
  where
    room : (z : ℕ) → 24 ≤ z → 23 + (z - 24) < z
    room z h = omega arith

normal_once : (n c : ℕ) → 0 < c → 24 ≤ size (n / c) → Once (kept 24 n c * 2 ^ drop 24 n c * c) n
normal_once n c C h =
    let k = drop 24 n c in
    let q = kept 24 n c in
    regroup q (2 ^ k) (half_once q n (c * 2 ^ k) (enough n c C h) (closest_half n (c * 2 ^ k) (mul-pos C (pow_pos k))))
  where
    regroup : (q K : ℕ) → Once (q * (c * K)) n → Once (q * K * c) n
    regroup q K h = omega arith

pub grid_once : (a c : ℕ) → 0 < c → 2 ^ 23 * c ≤ a * ONE → Once (grid binary32 a c * c) (a * ONE)
grid_once a c C h = normal_once (a * ONE) c C (normal_of_fraction binary32 a c C h)

pub grid_zero : (c : ℕ) → 0 < c → grid binary32 0 c ≡ 0
grid_zero c C =
    let k = drop 24 0 c in
    let u = c * 2 ^ k in
    let P : 0 < u = mul-pos C (pow_pos k) in
    ap (λ (z : ℕ). z * 2 ^ k) (half_whole (kept 24 0 c) 0 0 u P (sym (zero-mul u)) (closest_half 0 u P)) ∙ zero-mul (2 ^ k)

-- where no digit is dropped, the number itself is kept
whole_kept : (q w c K : ℕ) → 0 < c → K ≡ 1 → Half q (w * c) (c * K) → Once (q * K) w
whole_kept q w c K C e h =
    let u : c * K ≡ c = ap (λ (z : ℕ). c * z) e ∙ mul-one c in
    let x : q ≡ w = half_whole q w (w * c) c C refl (subst (λ (z : ℕ). Half q (w * c) z) u h) in
    let y : q * K ≡ q = ap (λ (z : ℕ). q * z) e ∙ mul-one q in
    omega arith

whole_once : (w c : ℕ) → 0 < c → Once (kept 24 (w * c) c * 2 ^ drop 24 (w * c) c) w
whole_once w c C =
    let k = drop 24 (w * c) c in
    let q = kept 24 (w * c) c in
    elim (eq-zero-or-pos k) [
      | inl e ↦ whole_kept q w c (2 ^ k) C (ap (λ (z : ℕ). 2 ^ z) e) (closest_half (w * c) (c * 2 ^ k) (mul-pos C (pow_pos k)))
      | inr l ↦ once_cancel (q * 2 ^ k) w c C (normal_once (w * c) c C (all (size (w * c / c)) l))
    ]
  where
    all : (z : ℕ) → 0 < z - 24 → 24 ≤ z
    all z h = omega arith

pub grid_whole : (w : ℕ) → Once (grid binary32 w ONE) w
grid_whole w = whole_once w ONE (pow_pos 149)
