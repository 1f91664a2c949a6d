-- The compact form of a table of 24-byte records (02 [9]): "Pairs stand in order of first use, none twice and none (0, 0)", and a record has the
-- 1-based place of its own. That a good table's is good, and leads back, stands in proofs/Laws/Back.
-- Assumes nothing.
use Rattle.std.specs.Prelude.{ℕ, ◌+◌, ◌*◌, Bool, cond, not, ◌&&◌, List, [], ◌++◌, eqb}
use Rattle.base.specs.First.{first}
use Rattle.base.specs.Limits.{CLASS_RECORD}
use Rattle.class_records.specs.Records.{records, record_at}
use Rattle.ring_meaning.specs.Record.{le_bytes}
use Rattle.class_compact_meaning.specs.Form.{SHARED_BYTES, PLACE_BYTES, LETTERS_RECORD, LETTERS_AT, letters_in, bytes_from, joined}

module _ (t : List ℕ) where
  -- the record i has neither base nor lower: (0, 0)
  unfoldable pub plain : ℕ → Bool
  plain i = eqb (record_at t i).base 0 && eqb (record_at t i).lower 0

  -- the records i and j have the same base and lower
  unfoldable pub alike : ℕ → ℕ → Bool
  alike i j = eqb (record_at t j).base (record_at t i).base && eqb (record_at t j).lower (record_at t i).lower

  -- the record that uses the letters of the record i first
  unfoldable pub first_alike : ℕ → ℕ
  first_alike i = first (alike i) (records t)

  -- the record i has letters, and is the first that uses them
  unfoldable pub is_new : ℕ → Bool
  is_new i = not (plain i) && eqb (first_alike i) i

  -- the bytes of base and lower, where they are used first
  unfoldable pub new_letters : ℕ → List ℕ
  new_letters i = cond (is_new i) (bytes_from t (i * CLASS_RECORD + LETTERS_AT) LETTERS_RECORD) []

  -- the letters that the records before i use, "in order of first use, none twice and none (0, 0)"
  unfoldable pub letters_before : ℕ → List ℕ
  letters_before i = joined new_letters i

  -- "0 or the 1-based place" of the letters of the record i: behind those that were used before their first use
  unfoldable pub packed_place : ℕ → ℕ
  packed_place i = cond (plain i) 0 (letters_in (letters_before (first_alike i)) + 1)

  -- the 16 bytes of the record i
  unfoldable pub compacted : ℕ → List ℕ
  compacted i = bytes_from t (i * CLASS_RECORD) SHARED_BYTES ++ le_bytes PLACE_BYTES (packed_place i)

  unfoldable pub packed_records : List ℕ
  packed_records = joined compacted (records t)

  unfoldable pub packed_letters : List ℕ
  packed_letters = letters_before (records t)
