-- "little-endian" (01): the number that four bytes of a table, or two, make from a place on, the lowest byte first. Past the table's end a
-- byte is 0; no good table is read there.
-- Assumes nothing.
use Rattle.std.specs.Prelude.{ℕ, ◌+◌, ◌*◌, List, get_or}

abbrev pub le16 : List ℕ → ℕ → ℕ
le16 t at = get_or t at 0 + 256 * get_or t (at + 1) 0

abbrev pub le32 : List ℕ → ℕ → ℕ
le32 t at = get_or t at 0 + 256 * get_or t (at + 1) 0 + 65536 * get_or t (at + 2) 0 + 16777216 * get_or t (at + 3) 0
