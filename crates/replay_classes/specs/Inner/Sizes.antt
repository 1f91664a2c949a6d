-- The sizes of the replay, by the names of src/main.rt.
-- Assumes nothing.
use Rattle.std.specs.Prelude.{ℕ}

abbrev pub CASE_BYTES : ℕ
CASE_BYTES = 262144

abbrev pub MADE_BYTES : ℕ
MADE_BYTES = 196632
