-- The lent language table (01, "Tables"): its records, when one is good, when the table is good, the first bad record, and the first record with a
-- number. Not the letters as a list (Letters), nor the refusal of a table that is not good (Check).
-- Assumes nothing.
use Rattle.std.specs.Prelude.{ℕ, ◌+◌, ◌*◌, ◌/◌, List, Bool, cond, not, ◌&&◌, length, leb, ltb, eqb}
use Rattle.base.specs.First.{first, each}
use Rattle.base.specs.Flags.{has}
use Rattle.base.specs.Limits.{LANGUAGE_RECORD, LANGUAGE_LETTERS, MOST_MARKS}
use Rattle.base.specs.Tests.{scalar, within}
use Rattle.base.specs.LittleEndian.{le16, le32}

-- "A language record is 1,032 bytes": how many there are
abbrev pub languages : List ℕ → ℕ
languages t = length t / LANGUAGE_RECORD

-- "number u32, letter count u16, marks u16 .., 256 u32 letters by popularity": where the fields of a record stand
abbrev pub COUNT_AT : ℕ
COUNT_AT = 4

abbrev pub MARKS_AT : ℕ
MARKS_AT = 6

abbrev pub SLOTS_AT : ℕ
SLOTS_AT = 8

-- bytes of a slot
abbrev pub SLOT : ℕ
SLOT = 4

-- the fields of the record i, and its slot k
unfoldable pub number_of : List ℕ → ℕ → ℕ
number_of t i = le32 t (i * LANGUAGE_RECORD)

unfoldable pub letter_count : List ℕ → ℕ → ℕ
letter_count t i = le16 t (i * LANGUAGE_RECORD + COUNT_AT)

unfoldable pub marks_of : List ℕ → ℕ → ℕ
marks_of t i = le16 t (i * LANGUAGE_RECORD + MARKS_AT)

unfoldable pub slot_at : List ℕ → ℕ → ℕ → ℕ
slot_at t i k = le32 t (i * LANGUAGE_RECORD + SLOTS_AT + SLOT * k)

-- "1 accents, 2 pure Latin"
abbrev pub ACCENTS : ℕ
ACCENTS = 1

abbrev pub PURE_LATIN : ℕ
PURE_LATIN = 2

unfoldable pub has_accents : List ℕ → ℕ → Bool
has_accents t i = has (marks_of t i) ACCENTS

unfoldable pub pure_latin : List ℕ → ℕ → Bool
pure_latin t i = has (marks_of t i) PURE_LATIN

-- "used letters scalar values, unused slots 0": the slots below the count are used
unfoldable pub good_slot : Bool → ℕ → Bool
good_slot used x = cond used (scalar x) (eqb x 0)

abbrev pub slot_good : List ℕ → ℕ → ℕ → Bool
slot_good t i k = good_slot (ltb k (letter_count t i)) (slot_at t i k)

unfoldable pub good_slots : List ℕ → ℕ → Bool
good_slots t i = each (slot_good t i) LANGUAGE_LETTERS

-- "numbers nonzero, count 1 to 256, marks at most 3", and the slots
unfoldable pub good_record : List ℕ → ℕ → Bool
good_record t i =
    not (eqb (number_of t i) 0)
    && within 1 LANGUAGE_LETTERS (letter_count t i)
    && leb (marks_of t i) MOST_MARKS
    && good_slots t i

-- the first bad record, or their number where none is bad
unfoldable pub first_bad : List ℕ → ℕ
first_bad t = first (λ i. not (good_record t i)) (languages t)

-- "the first record with its number", or the number of records where none has it. "A number may stand in several records"
unfoldable pub first_record : List ℕ → ℕ → ℕ
first_record t x = first (λ i. eqb (number_of t i) x) (languages t)
