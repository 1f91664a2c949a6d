-- Which thresholds are finite (01, refusal 4: "threshold not finite"): all but NaN and the two infinities. -0.0, subnormal and negative
-- numbers and the largest f32 are finite; the cause of refusal 4 (`not_finite`). And what a ratio or a sum of ratios is: finite, and with no minus sign. Laws: proofs/Laws/Finite.
-- Assumes nothing.
use Rattle.std.specs.Prelude.{◌≡◌, Bool, true, false, not, Float, Result, ⊤}
use Rattle.std.specs.Float.{nan, inf, fin, binary32}
use Rattle.std.specs.Float.Ieee.{fits}
use Rattle.base.specs.declared.Refusal.{Refusal}
use Rattle.base.specs.Causes.{given}
use Rattle.base.specs.declared.refusals.Cause.TheVariants.{NotFinite}

abbrev pub is_finite : Float → Bool
is_finite nan = false
is_finite (inf sign) = false
is_finite (fin sign m e) = true

-- 4: "threshold not finite"
unfoldable pub not_finite : Float → Result ⊤ Refusal
not_finite threshold = given (not (is_finite threshold)) NotFinite 0

-- x is a finite f32
pub record Finite (x : Float) : Type 0 where
  pub is_finite_holds : is_finite x ≡ true
  pub is_f32 : fits binary32 x ≡ true
