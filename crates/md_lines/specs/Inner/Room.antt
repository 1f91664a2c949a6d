-- How many places the room has through which most lines go. No answer depends on it: it only says which lines are read in one pass.
-- Assumes nothing.
use Rattle.std.specs.Prelude.{ℕ}

abbrev pub ROOM : ℕ
ROOM = 512
