-- Words of inner contracts, beside Line: `LONGEST_LINE`. No public promise rests on them.
-- Assumes nothing.
use Rattle.std.specs.Prelude.{ℕ}

-- no line is longer
abbrev pub LONGEST_LINE : ℕ
LONGEST_LINE = 64
