-- Words of inner contracts, beside Fraction: `MOST_NUM`, `MOST_DEN`, `MOST_TERM`, `Small`, `Proper`. No public promise rests on them.
-- Assumes nothing.
use Rattle.std.specs.Prelude.{ℕ, ◌+◌, ◌^◌, ◌≤◌, ◌<◌}
use Rattle.ratio.specs.declared.Fraction.{Fraction}

-- Bounds of the counts: 8 for each of LARGEST characters, and LARGEST with a little more. So they hold of every scan of 01, and of a running
-- state that is lent, whose counts are at most twice the number received, also where the end of a word adds two of them.
abbrev pub MOST_NUM : ℕ
MOST_NUM = 2 ^ 21

abbrev pub MOST_DEN : ℕ
MOST_DEN = 2 ^ 18 + 2

-- the largest p and q of a cut-off p/q
abbrev pub MOST_TERM : ℕ
MOST_TERM = 64

pub record Small (f : Fraction) : Type 0 where
  pub num : f.num ≤ MOST_NUM
  pub den : f.den ≤ MOST_DEN

-- and not over 0
pub record Proper (f : Fraction) : Type 0 where
  pub small : Small f
  pub positive : 0 < f.den
