-- The sizes of the replay, by the names of src/main.rt.
-- Assumes nothing.
use Rattle.std.specs.Prelude.{ℕ, ◌+◌}
use Rattle.base.specs.Limits.{LONGEST_TEXT}

-- entries that a case has room for
abbrev pub PAGE_ROOM : ℕ
PAGE_ROOM = 132

-- one over the limit
abbrev pub LONGEST : ℕ
LONGEST = LONGEST_TEXT + 1
