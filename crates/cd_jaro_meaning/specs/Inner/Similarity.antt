-- Words of inner contracts, beside Similarity: `UNITS`, `Share`, `Good`. No public promise rests on them.
-- Assumes nothing.
use Rattle.std.specs.Prelude.{ℕ, ◌*◌, ◌^◌, ◌≤◌, ◌<◌, ◌≡◌, ◌⊎◌, true, false, Float}
use Rattle.std.specs.Float.{binary32}
use Rattle.std.specs.Float.Ieee.{fits}
use Rattle.std.specs.Float.Ieee.Exact.{HasValue}
use Rattle.ratio.specs.Inner.Finite.{Plain}
use Rattle.f32_nearest.specs.Inner.Nearest.{NOUGHT}

-- how many parts of 2 ^ -149 are 1
abbrev pub UNITS : ℕ
UNITS = 2 ^ 149

-- above 1/6 and at most 1
pub record Share (r : Float) : Type 0 where
  pub parts : ℕ
  pub value : HasValue r false parts UNITS
  pub above : UNITS < 6 * parts
  pub most : parts ≤ UNITS

-- what is known of a similarity
pub record Good (r : Float) : Type 0 where
  pub single : fits binary32 r ≡ true
  pub plain : Plain r
  pub range : (r ≡ NOUGHT) ⊎ Share r
