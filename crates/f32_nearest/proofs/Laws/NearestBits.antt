-- The bits of the nearest f32, from the f64's: `nearest_bits`. Both patterns hold the exponent's field above the digits, so dropping the
-- digits' last 29, rounding, and taking the biases' difference off the field gives the one from the other.
-- Assumes nothing.
use Prim.Native.Nat.{ℕ, suc, ◌+◌, ◌-◌, ◌*◌, ◌/◌, ◌%◌, ◌^◌, ◌≤◌, ◌<◌, compare, Ordering}
use mathlib.Core.Path.{◌≡◌, refl, sym, ap, ◌∙◌}
use mathlib.Core.Bool.{false}
use native.Mathlib.Nat.{le_trans, lt_of_le_of_lt, mul-le-mul}
use native.Mathlib.Omega.{arith}
use lib.Dec.{T, leb, lit<}
use lib.Pow.{pow_pos, pow_mono}
use lib.Ieee.{Float, nan, inf, fin, binary32, binary64, low, emax, prec, ones, nearest, units, fits, is_nan, nan_bits, of_fields, of_bits, to_bits}
use lib.Ieee.Fits.{round-fits, nearest-le}
use lib.Ieee.Exact.{HasValue, odd_sign, units_val}
use lib.Ieee.Nearest.{closest, nearest-ge}
use lib.Ieee.Bits.{of_bits-to_bits, nan_bits_is}
use borrow.Author.Tests.{lt-leb, ne_eqb}
use Rattle.f32_nearest.specs.Inner.Fields.{DROPPED}
use Rattle.f32_nearest.proofs.Laws.Fields.{F32_FIELD, F64_FIELD, F32_DIGITS, F64_SIGN, BIAS_DIFFERENCE, REBIASED, LEAST, ABOVE}
use Rattle.f32_nearest.specs.Nearest.{nearest_f32}
use Rattle.f32_nearest.proofs.Laws.Nearest.{nearest_is}
use Rattle.f32_nearest.proofs.Laws.Digits.{rounded, bits_at}

-- the value of an f64, from its bits: digits times a power of two
value_of : (u : ℕ) → LEAST ≤ u → u < ABOVE
    → HasValue (of_bits binary64 u) false ((F64_FIELD + u % F64_FIELD) * 2 ^ (u / F64_FIELD - 1)) (2 ^ 1074)
unfolding of_bits of_fields
value_of u lo hi =
    let a : leb F64_SIGN u ≡ false = lt-leb F64_SIGN u (omega arith) in
    let b : u % F64_SIGN / F64_FIELD ≡ suc (u / F64_FIELD - 1) = omega arith in
    let n : suc (u / F64_FIELD - 1) ≡ ones binary64 → ⊥ = λ h. omega arith in
    rw (a, b, ne_eqb _ _ n) (odd_sign (prec binary64) false (F64_FIELD + u % F64_FIELD) (u / F64_FIELD - 1) 1074)

-- an even number added does not move a tie
nearest_even : (a b : ℕ) (o : Ordering) → nearest (a * 2 + b) o ≡ a * 2 + nearest b o
nearest_even a b Ordering.lt = refl
nearest_even a b Ordering.eq = omega arith
nearest_even a b Ordering.gt = omega arith

-- the code's number is the f32's field, one less since the leading digit adds one to it, above the digits rounded
shifted : (u : ℕ) (o : Ordering) → LEAST ≤ u → u < ABOVE
    → nearest (u / DROPPED) o - REBIASED ≡ (u / F64_FIELD - suc BIAS_DIFFERENCE) * F32_FIELD + nearest ((F64_FIELD + u % F64_FIELD) / DROPPED) o
shifted u o lo hi =
    let a = (u / F64_FIELD - 1) * (F32_FIELD / 2) in
    let b = (F64_FIELD + u % F64_FIELD) / DROPPED in
    let e : u / DROPPED ≡ a * 2 + b = omega arith in
    ap (λ (z : ℕ). nearest z o - REBIASED) e ∙ ap (λ (z : ℕ). z - REBIASED) (nearest_even a b o) ∙ last (nearest b o)
  where
    last : (n : ℕ) → (u / F64_FIELD - 1) * (F32_FIELD / 2) * 2 + n - REBIASED ≡ (u / F64_FIELD - suc BIAS_DIFFERENCE) * F32_FIELD + n
    last n = omega arith

-- what `nearest_f32` computes
abbrev pub bits : ℕ → ℕ
bits u = nearest (u / DROPPED) (compare (u % DROPPED * 2) DROPPED) - REBIASED

module _ (u : ℕ) (lo : LEAST ≤ u) (hi : u < ABOVE) where
  -- how many places more than 29 the value stands above the smallest f32, and its digits, rounded to 24
  unfoldable d : ℕ
  d = u / F64_FIELD - (suc BIAS_DIFFERENCE + 29)

  unfoldable q : ℕ
  q = closest (F64_FIELD + u % F64_FIELD) DROPPED

  q_low : F32_FIELD ≤ q
  unfolding q
  q_low = le_trans (omega arith) (nearest-ge ((F64_FIELD + u % F64_FIELD) / DROPPED) (compare ((F64_FIELD + u % F64_FIELD) % DROPPED * 2) DROPPED))

  q_high : q ≤ F32_DIGITS
  unfolding q
  q_high = le_trans (nearest-le ((F64_FIELD + u % F64_FIELD) / DROPPED) (compare ((F64_FIELD + u % F64_FIELD) % DROPPED * 2) DROPPED)) (omega arith)

  w_is : nearest_f32 (of_bits binary64 u) ≡ units binary32 false q (29 + d)
  unfolding q d
  w_is =
      nearest_is (of_bits binary64 u) _ (2 ^ 1074) (pow_pos 1074) (value_of u lo hi)
      ∙ rounded (F64_FIELD + u % F64_FIELD) (u / F64_FIELD - (suc BIAS_DIFFERENCE + 29)) (u / F64_FIELD - 1) (omega arith) (omega arith) (omega arith)

  -- far below 2 ^ 128, where binary32 ends
  d_high : 29 + d ≤ 126
  unfolding d
  d_high = omega arith

  under : q * 2 ^ (29 + d) < 2 ^ (low binary32 + suc (emax binary32))
  under = lt_of_le_of_lt (mul-le-mul q_high (pow_mono d_high)) (lit< tt)

  has : HasValue (nearest_f32 (of_bits binary64 u)) false (q * 2 ^ (29 + d)) (2 ^ 149)
  has = rw w_is (units_val binary32 false q (29 + d) under)

  fit : T (fits binary32 (nearest_f32 (of_bits binary64 u)))
  fit = rw (nearest_is (of_bits binary64 u) _ (2 ^ 1074) (pow_pos 1074) (value_of u lo hi)) (round-fits binary32 false _ (2 ^ 1074))

  bits_is : to_bits binary32 (nearest_f32 (of_bits binary64 u)) ≡ bits u
  unfolding d q
  bits_is =
      bits_at (nearest_f32 (of_bits binary64 u)) q (29 + d) q_low q_high has
      ∙ sym (shifted u (compare (u % DROPPED * 2) DROPPED) lo hi ∙ same)
    where
      same : (u / F64_FIELD - suc BIAS_DIFFERENCE) * F32_FIELD + nearest ((F64_FIELD + u % F64_FIELD) / DROPPED) (compare (u % DROPPED * 2) DROPPED)
          ≡ (29 + (u / F64_FIELD - (suc BIAS_DIFFERENCE + 29))) * F32_FIELD + q
      same =
          let r : u % DROPPED ≡ (F64_FIELD + u % F64_FIELD) % DROPPED = omega arith in
          let k : u / F64_FIELD - suc BIAS_DIFFERENCE ≡ 29 + (u / F64_FIELD - (suc BIAS_DIFFERENCE + 29)) = omega arith in
          rw (r, k)

  -- the f32 that the bits are
  pub nearest_bits : of_bits binary32 (bits u) ≡ nearest_f32 (of_bits binary64 u)
  nearest_bits = ap (of_bits binary32) (sym bits_is) ∙ of_bits-to_bits binary32 (nearest_f32 (of_bits binary64 u)) fit

  pub bits_real : nan_bits binary32 (bits u) ≡ false
  unfolding is_nan
  bits_real = nan_bits_is binary32 (bits u) ∙ ap is_nan nearest_bits ∙ go (nearest_f32 (of_bits binary64 u)) has
    where
      go : (x : Float) → HasValue x false (q * 2 ^ (29 + d)) (2 ^ 149) → is_nan x ≡ false
      go nan v = absurd v
      go (inf s) v = absurd v
      go (fin s m e) v = refl
