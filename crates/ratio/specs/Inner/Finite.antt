-- Words of inner contracts, beside Finite: `Plain`. No public promise rests on them.
-- Assumes nothing.
use Rattle.std.specs.Prelude.{ℕ, ◌≡◌, true, false, not, T, Float}
use Rattle.std.specs.Float.{binary32}
use Rattle.std.specs.Float.Ieee.{is_nan, of_bits, le}
use Rattle.std.specs.Float.Ieee.Exact.{HasValue}
use Rattle.ratio.specs.Parts.{ONE}
use Rattle.ratio.specs.Finite.{is_finite}

-- x is `size` parts of 2 ^ -149, with no minus sign; so it is finite, no NaN and not below +0.0
pub record Plain (x : Float) : Type 0 where
  pub size : ℕ
  pub value : HasValue x false size ONE
  pub is_finite_holds : is_finite x ≡ true
  pub no_nan : T (not (is_nan x))
  pub not_negative : le (of_bits binary32 0) x ≡ true
