-- The limits of the replay, by the names of src/main.rt.
-- Assumes nothing.
use Rattle.std.specs.Prelude.{ℕ}

abbrev pub BLOCK_BYTES : ℕ
BLOCK_BYTES = 131072

abbrev pub TEXT_ROOM : ℕ
TEXT_ROOM = 8200
