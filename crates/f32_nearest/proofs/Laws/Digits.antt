-- Rounding a number of 53 digits to 24, and the bits of the result: `rounded` and `bits_at`. 149 and 1074 are the formats' `low`: their
-- smallest values are 2 ^ -149 and 2 ^ -1074. 24 and 53 are their `prec`, and 29 is the difference.
-- Assumes nothing.
use Prim.Native.Nat.{ℕ, suc, ◌+◌, ◌-◌, ◌*◌, ◌/◌, ◌^◌, ◌≤◌, ◌<◌}
use mathlib.Core.Path.{◌≡◌, refl, sym, ap, ◌∙◌}
use mathlib.Core.Logic.{inl, inr}
use mathlib.Core.Bool.{false}
use native.Mathlib.Nat.{le_antisymm, suc-add, le_trans, le_of_eq, lt_of_not-le, not-le_of_lt, lt_of_lt_of_le, eq-or-lt_of_le, mul_assoc, mul_comm}
use native.Mathlib.Nat.{mul_left_comm, mul-le-mul_right, mul-pos, mul-div_cancel}
use native.Mathlib.Omega.{arith}
use lib.Dec.{lit<}
use lib.Pow.{pow-add, pow_pos, pow_mono, shl_lt, shl-shr}
use lib.Ieee.{Float, nan, inf, fin, binary32, up, down, size, units, round, to_bits}
use lib.Ieee.Digits.{size-lt, size-le}
use lib.Ieee.Fits.{round_is, down_pos}
use lib.Ieee.Exact.{HasValue}
use lib.Ieee.Nearest.{closest, closest_same}
use Rattle.f32_nearest.proofs.Laws.Fields.{F32_FIELD, F32_DIGITS}

pub size_at : (n j : ℕ) → 2 ^ j ≤ n → n < 2 ^ suc j → size n ≡ suc j
size_at n j lo hi =
    le_antisymm (size-le n (suc j) hi) (lt_of_not-le (λ g. not-le_of_lt (lt_of_lt_of_le (size-lt n) (pow_mono g)) lo))

-- q * 2 ^ k has k digits more than q
pub size_up : (q j k : ℕ) → 2 ^ j ≤ q → q < 2 ^ suc j → size (q * 2 ^ k) ≡ suc (j + k)
size_up q j k lo hi =
    size_at (q * 2 ^ k) (j + k) (le_trans (le_of_eq (pow-add 2 j k)) (mul-le-mul_right (2 ^ k) lo)) (rw (suc-add j k) at (shl_lt (suc j) k hi))

module _ (Q d k l L : ℕ) (lo : 2 ^ 52 ≤ Q) (hi : Q < 2 ^ 53) (e : k + l ≡ L + d) where
  pub same : Q * 2 ^ k * 2 ^ l ≡ Q * 2 ^ d * 2 ^ L
  same =
      mul_assoc Q (2 ^ k) (2 ^ l)
      ∙ ap (λ (z : ℕ). Q * z) (sym (pow-add 2 k l) ∙ ap (λ (z : ℕ). 2 ^ z) e ∙ pow-add 2 L d ∙ mul_comm (2 ^ L) (2 ^ d))
      ∙ sym (mul_assoc Q (2 ^ d) (2 ^ L))

  pub dropped : size (Q * 2 ^ k * 2 ^ l / 2 ^ L) - 24 ≡ 29 + d
  dropped =
      let a : Q * 2 ^ k * 2 ^ l / 2 ^ L ≡ Q * 2 ^ d = ap (λ (z : ℕ). z / 2 ^ L) same ∙ mul-div_cancel (Q * 2 ^ d) (pow_pos L) in
      let b : size (Q * 2 ^ d) ≡ suc (52 + d) = size_up Q 52 d lo hi in
      ap (λ (z : ℕ). size z - 24) a ∙ ap (λ (z : ℕ). z - 24) b ∙ omega arith

  pub kept_is : closest (Q * 2 ^ k * 2 ^ l) (2 ^ L * 2 ^ (29 + d)) ≡ closest Q (2 ^ 29)
  kept_is =
      closest_same (Q * 2 ^ k * 2 ^ l) (2 ^ L * 2 ^ (29 + d)) Q (2 ^ 29) (mul-pos (pow_pos L) (pow_pos (29 + d))) (pow_pos 29)
      (ap (λ (z : ℕ). z * 2 ^ 29) same ∙ ring (2 ^ d) (2 ^ L) (2 ^ 29) ∙ ap (λ (z : ℕ). Q * (2 ^ L * z)) (sym (pow-add 2 29 d)))
    where
      ring : (x y z : ℕ) → Q * x * y * z ≡ Q * (y * (z * x))
      ring x y z = simp (mul_assoc, mul_comm, mul_left_comm)

pub rounded : (Q d k : ℕ) → 2 ^ 52 ≤ Q → Q < 2 ^ 53 → k + 149 ≡ 1074 + d → round binary32 false (Q * 2 ^ k) (2 ^ 1074) ≡ units binary32 false (closest Q (2 ^ 29)) (29 + d)
rounded Q d k lo hi e =
    round_is binary32 false (Q * 2 ^ k) (2 ^ 1074)
    ∙ ap (λ (z : ℕ). units binary32 false (closest (Q * 2 ^ k * 2 ^ 149) (2 ^ 1074 * 2 ^ z)) z) (dropped Q d k 149 1074 lo hi e)
    ∙ ap (λ (z : ℕ). units binary32 false z (29 + d)) (kept_is Q d k 149 1074 lo hi e)

-- ---- the bits of q * 2 ^ k of the smallest values, for a q of 24 digits, or 2 ^ 24
parts : (m u c l q : ℕ) → 0 < c → m * u * l ≡ q * c → m * u * l / c ≡ q
parts m u c l q p e = ap (λ (z : ℕ). z / c) e ∙ mul-div_cancel q p

under : (q k : ℕ) → 2 ^ 23 ≤ q → q < 2 ^ 24 → (size (q * 2 ^ k) - 24) * F32_FIELD + q * 2 ^ k / 2 ^ (size (q * 2 ^ k) - 24) ≡ k * F32_FIELD + q
under q k lo hi =
    let s : size (q * 2 ^ k) - 24 ≡ k = ap (λ (z : ℕ). z - 24) (size_up q 23 k lo hi) ∙ omega arith in
    ap (λ (z : ℕ). z * F32_FIELD + q * 2 ^ k / 2 ^ z) s ∙ ap (λ (z : ℕ). k * F32_FIELD + z) (shl-shr q k)

full : (k : ℕ) → (size (F32_DIGITS * 2 ^ k) - 24) * F32_FIELD + F32_DIGITS * 2 ^ k / 2 ^ (size (F32_DIGITS * 2 ^ k) - 24) ≡ k * F32_FIELD + F32_DIGITS
full k =
    let s : size (F32_DIGITS * 2 ^ k) - 24 ≡ suc k = ap (λ (z : ℕ). z - 24) (size_up F32_DIGITS 24 k (le_of_eq refl) (lit< tt)) ∙ omega arith in
    let p : F32_DIGITS * 2 ^ k ≡ F32_FIELD * 2 ^ suc k = ap (λ (z : ℕ). F32_DIGITS * z) refl ∙ omega (arith, pow-add 2 1 k) in
    ap (λ (z : ℕ). z * F32_FIELD + F32_DIGITS * 2 ^ k / 2 ^ z) s
    ∙ ap (λ (z : ℕ). suc k * F32_FIELD + z / 2 ^ suc k) p
    ∙ ap (λ (z : ℕ). suc k * F32_FIELD + z) (shl-shr F32_FIELD (suc k))
    ∙ omega arith

number : (q k : ℕ) → 2 ^ 23 ≤ q → q ≤ 2 ^ 24 → (size (q * 2 ^ k) - 24) * F32_FIELD + q * 2 ^ k / 2 ^ (size (q * 2 ^ k) - 24) ≡ k * F32_FIELD + q
number q k lo hi =
    elim (eq-or-lt_of_le hi) [
      | inl e ↦ rw e (full k)
      | inr l ↦ under q k lo l
    ]

pub bits_at : (w : Float) (q k : ℕ) → 2 ^ 23 ≤ q → q ≤ 2 ^ 24 → HasValue w false (q * 2 ^ k) (2 ^ 149) → to_bits binary32 w ≡ k * F32_FIELD + q
unfolding to_bits
bits_at nan q k lo hi v = absurd v
bits_at (inf s) q k lo hi v = absurd v
bits_at (fin s m e) q k lo hi v =
    let n : m * up e * 2 ^ 149 / down e ≡ q * 2 ^ k = parts m (up e) (down e) (2 ^ 149) (q * 2 ^ k) (down_pos e) v.1 in
    rw (v.0, n) (omega (arith, number q k lo hi))
