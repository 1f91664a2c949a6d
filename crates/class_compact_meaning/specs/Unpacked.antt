-- The table of 24-byte records that a compact table stands for (02 [9]), its expansion: each record with its letters in place of their place, and
-- the zero field zero.
-- Assumes nothing.
use Rattle.std.specs.Prelude.{ℕ, ◌-◌, ◌*◌, cond, List, ◌∷◌, ◌++◌, replicate}
use Rattle.base.specs.Tests.{within}
use Rattle.class_compact_meaning.specs.Form.{COMPACT_RECORD, SHARED_BYTES, LETTERS_RECORD, compact_records, letters_in, place_at, bytes_from, joined}

-- the bytes of base and lower at a place; zeros at 0, and where they are missing (such a record is bad, Check)
unfoldable pub letters_bytes : List ℕ → ℕ → List ℕ
letters_bytes l p = cond (within 1 (letters_in l) p) (bytes_from l ((p - 1) * LETTERS_RECORD) LETTERS_RECORD) (replicate LETTERS_RECORD 0)

-- the 24 bytes of the record i
unfoldable pub expansion : List ℕ → List ℕ → ℕ → List ℕ
expansion c l i = bytes_from c (i * COMPACT_RECORD) SHARED_BYTES ++ (0 ∷ 0 ∷ letters_bytes l (place_at c i))

unfoldable pub unpacked : List ℕ → List ℕ → List ℕ
unpacked c l = joined (expansion c l) (compact_records c)
