-- When a compact table is good (02 [9]): "Pairs stand in order of first use, none twice and none (0, 0)." "Refusals: 5 as before, for the class list
-- (a record is bad if its pair is missing or its expansion bad) and then the pairs (bad if unused, (0, 0), a repeat, or first used before its
-- predecessor)". As before: a length or a number that is not allowed at 0, then the first bad one. Of a repeat the later is bad. The laws that lead
-- from either form to the other and back stand in proofs/Laws/Back.
-- Assumes nothing.
use Rattle.std.specs.Prelude.{ℕ, ◌+◌, ◌%◌, List, [], ◌∷◌, Bool, not, ◌&&◌, ◌||◌, length, eqb, ltb, Result, ⊤}
use Rattle.base.specs.declared.Refusal.{Refusal}
use Rattle.base.specs.Causes.{given, first_of}
use Rattle.base.specs.First.{first}
use Rattle.base.specs.Limits.{MOST_CLASSES}
use Rattle.base.specs.declared.refusals.Cause.TheVariants.{BadClasses}
use Rattle.class_records.specs.Records.{good_at}
use Rattle.class_compact_meaning.specs.Form.{COMPACT_RECORD, LETTERS_RECORD, compact_records, letters_in, place_at, base_at, lower_at}
use Rattle.class_compact_meaning.specs.Unpacked.{unpacked}

-- its letters are missing: a place past the last whole 8 bytes
unfoldable pub missing : List ℕ → List ℕ → ℕ → Bool
missing c l i = ltb (letters_in l) (place_at c i)

-- "a record is bad if its pair is missing or its expansion bad"
unfoldable pub bad_record_at : List ℕ → List ℕ → ℕ → Bool
bad_record_at c l i = missing c l i || not (good_at (unpacked c l) i)

-- the first bad record, or their number where none is bad
unfoldable pub first_bad_record : List ℕ → List ℕ → ℕ
first_bad_record c l = first (bad_record_at c l) (compact_records c)

-- the first record that uses the letters at a place, or the number of records where none does
unfoldable pub first_use : List ℕ → ℕ → ℕ
first_use c place = first (λ i. eqb (place_at c i) place) (compact_records c)

-- "unused": the letters k have the place k + 1
unfoldable pub unused : List ℕ → ℕ → Bool
unused c k = eqb (first_use c (k + 1)) (compact_records c)

-- "(0, 0)"
unfoldable pub no_letters : List ℕ → ℕ → Bool
no_letters l k = eqb (base_at l k) 0 && eqb (lower_at l k) 0

-- whether the letters k are these
unfoldable pub letters_are : List ℕ → ℕ → ℕ → ℕ → Bool
letters_are l base lower k = eqb (base_at l k) base && eqb (lower_at l k) lower

-- "a repeat": letters before them are the same
unfoldable pub repeated : List ℕ → ℕ → Bool
repeated l k = ltb (first (letters_are l (base_at l k) (lower_at l k)) k) k

-- "first used before its predecessor"
unfoldable pub early : List ℕ → ℕ → Bool
early c k = ltb 0 k && ltb (first_use c (k + 1)) (first_use c k)

unfoldable pub bad_letters : List ℕ → List ℕ → ℕ → Bool
bad_letters c l k = unused c k || (no_letters l k || (repeated l k || early c k))

-- the first bad letters, or their number where none is bad
unfoldable pub first_bad_letters : List ℕ → List ℕ → ℕ
first_bad_letters c l = first (bad_letters c l) (letters_in l)

-- the class list's length, its number, and a record
unfoldable pub bad_compact_length : List ℕ → Result ⊤ Refusal
bad_compact_length c = given (not (eqb (length c % COMPACT_RECORD) 0)) BadClasses 0

unfoldable pub bad_compact_number : List ℕ → Result ⊤ Refusal
bad_compact_number c = given (ltb MOST_CLASSES (compact_records c)) BadClasses 0

unfoldable pub bad_compact_record : List ℕ → List ℕ → Result ⊤ Refusal
bad_compact_record c l = given (ltb (first_bad_record c l) (compact_records c)) BadClasses (first_bad_record c l)

-- the length of the list of letters, and letters of it
unfoldable pub bad_letters_length : List ℕ → Result ⊤ Refusal
bad_letters_length l = given (not (eqb (length l % LETTERS_RECORD) 0)) BadClasses 0

unfoldable pub bad_letters_record : List ℕ → List ℕ → Result ⊤ Refusal
bad_letters_record c l = given (ltb (first_bad_letters c l) (letters_in l)) BadClasses (first_bad_letters c l)

-- 5
unfoldable pub bad_compact : List ℕ → List ℕ → Result ⊤ Refusal
bad_compact c l =
    first_of (bad_compact_length c ∷ bad_compact_number c ∷ bad_compact_record c l ∷ bad_letters_length l ∷ bad_letters_record c l ∷ [])
