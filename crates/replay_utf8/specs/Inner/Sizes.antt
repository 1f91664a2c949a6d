-- The sizes of the replay, by the names of src/main.rt.
-- Assumes nothing.
use Rattle.std.specs.Prelude.{ℕ, ◌+◌}
use Rattle.base.specs.Limits.{LONGEST_BYTES, LONGEST_TEXT}

-- more than any unit, tail or case has
abbrev pub SMALL : ℕ
SMALL = 1024

-- one over the limit
abbrev pub INPUT : ℕ
INPUT = LONGEST_BYTES + 1

abbrev pub OUTPUT : ℕ
OUTPUT = LONGEST_TEXT + 1
