-- A rounded value between two fractions that its format holds: rounding does not pass either (`held`).
-- Assumes nothing.
use Prim.Native.Nat.{ℕ, suc, ◌+◌, ◌*◌, ◌^◌, ◌≤◌, ◌<◌}
use mathlib.Core.Path.{◌≡◌, ap, sym, ◌∙◌}
use mathlib.Core.Bool.{false}
use native.Mathlib.Nat.{lt_of_lt_of_le, mul_assoc, mul_comm}
use native.Mathlib.Omega.{arith}
use lib.Dec.{T}
use lib.Pow.{pow-add, pow_pos, pow_mono, shl_lt}
use lib.Ieee.{Float, Format, prec, emax, low, round, le}
use lib.Ieee.Exact.{HasValue, round_exact}
use lib.Ieee.Fits.{reach}
use lib.Ieee.Order.{round_mono}
use lib.Ieee.Positive.{positive, positive-finite, positive_of_value, between, values_of_le}
use lib.Ieee.Scale.{grid, round_val, round_under}

-- the format f holds the fraction a/c exactly, and it is above zero
pub record Exact (f : Format) (a c : ℕ) : Type 0 where
  pub den : 0 < c
  pub value : HasValue (round f false a c) false a c
  pub above : T (positive (round f false a c))

-- x, in parts of f's smallest value, is from a/c to b/d
pub record Held (f : Format) (x : Float) (a c b d : ℕ) : Type 0 where
  pub parts : ℕ
  pub value : HasValue x false parts (2 ^ low f)
  pub least : a * 2 ^ low f ≤ parts * c
  pub most : parts * d ≤ b * 2 ^ low f

module _ (f : Format) where
  -- a few digits over a power of two
  pub exact : (a k d : ℕ) → 0 < a → a < 2 ^ prec f → low f ≡ k + d → Exact f a (2 ^ k)
  exact a k d A B e =
      let fine : a * 2 ^ d < 2 ^ (low f + suc (emax f)) = lt_of_lt_of_le (shl_lt (prec f) d B) (pow_mono (far (reach f))) in
      let v : HasValue (round f false a (2 ^ k)) false a (2 ^ k) = round_exact f false a (2 ^ k) a d (pow_pos k) B fine scaled in
      record { den = pow_pos k; value = v; above = positive_of_value (round f false a (2 ^ k)) a (2 ^ k) v A }
    where
      far : {p m : ℕ} → p ≤ m → p + d ≤ low f + m
      far h = omega (arith, e)

      scaled : a * 2 ^ low f ≡ a * 2 ^ d * 2 ^ k
      scaled = ap (λ (z : ℕ). a * 2 ^ z) e ∙ ap (λ (z : ℕ). a * z) (pow-add 2 k d ∙ mul_comm (2 ^ k) (2 ^ d)) ∙ sym (mul_assoc a (2 ^ d) (2 ^ k))

  pub held : (p q : ℕ) {a c b d : ℕ} → 0 < q → Exact f a c → Exact f b d → a * q ≤ p * c → p * d ≤ b * q → Held f (round f false p q) a c b d
  held p q {a} {c} {b} {d} Q A B l h =
      let lo : T (le (round f false a c) (round f false p q)) = round_mono f a c p q A.den Q l in
      let hi : T (le (round f false p q) (round f false b d)) = round_mono f p q b d Q B.den h in
      let z : T (positive (round f false p q)) = between (round f false a c) (round f false p q) (round f false b d) A.above B.above lo hi in
      let v : HasValue (round f false p q) false (grid f p q) (2 ^ low f) = round_val f p q (round_under f p q (positive-finite (round f false p q) z)) in
      record {
        parts = grid f p q;
        value = v;
        least = values_of_le (round f false a c) (round f false p q) a c (grid f p q) (2 ^ low f) A.above z A.value v lo;
        most = values_of_le (round f false p q) (round f false b d) (grid f p q) (2 ^ low f) b d z B.above v B.value hi;
      }
