-- The sizes of the replay, by the names of src/main.rt.
-- Assumes nothing.
use Rattle.std.specs.Prelude.{ℕ, ◌+◌, ◌*◌}
use Rattle.ring_meaning.specs.Record.{RECORD}
use Rattle.ring_meaning.specs.Ring.{MOST_SLOTS}

-- more than a case tells of a ring or of an output
abbrev pub SMALL : ℕ
SMALL = 1024

-- one slot over the limit
abbrev pub RING : ℕ
RING = RECORD * MOST_SLOTS + RECORD

abbrev pub OUTPUT : ℕ
OUTPUT = 1024
