-- What a higher threshold does (02 [12]: "For one accepted text, the same tables and two finite thresholds, the higher one never feeds fewer
-- characters. If the lower one doesn't stop early, the higher one gives the same whole answer. If both stop early at the same place, the answers
-- are equal."). Law: `higher_compared`; that acceptance hangs on no finite threshold is `accepted_alike`.
-- Assumes nothing.
use Rattle.std.specs.Prelude.{ℕ, ◌≤◌, ◌≡◌, true, false, pos, Float}
use Rattle.std.specs.Float.{binary32}
use Rattle.std.specs.Float.Ieee.{of_int, le}
use Rattle.ratio.specs.Finite.{is_finite}
use Rattle.md_meaning.specs.declared.Score.{Score}

-- two finite thresholds, the second at or above the first in the order of f32: equal ones are so, and -0.0 and +0.0 either way
pub record Higher (lower upper : Float) : Type 0 where
  pub lower_finite : is_finite lower ≡ true
  pub upper_finite : is_finite upper ≡ true
  pub at_most : le lower upper ≡ true

-- no sum of ratios lies above this: 2, 1, 8, 2, 4, 1 and 1 of the seven that 01 bounds, and 4,096 CJK stops to one CJK character, since 65,537
-- characters at most are fed and 16 of them must be CJK
abbrev pub HIGHEST : ℕ
HIGHEST = 4115

-- as an f32
abbrev pub HIGHEST_F32 : Float
HIGHEST_F32 = of_int binary32 (pos HIGHEST)

-- the answers at the lower and at the higher one
pub record Compared (low high : Score) : Type 0 where
  -- "the higher one never feeds fewer characters"
  pub never_fewer : low.fed ≤ high.fed
  -- "If the lower one doesn't stop early, the higher one gives the same whole answer."
  pub same_whole : low.stopped ≡ false → high ≡ low
  -- "If both stop early at the same place, the answers are equal."
  pub same_place : low.stopped ≡ true → high.stopped ≡ true → low.fed ≡ high.fed → high ≡ low
