-- The check of a lent class table (01, "Refusal numbers", 5): the number of its records, or why it is not good. "Length and number come before
-- records"; the place is that of the "first bad record; for length or number, 0".
-- Assumes nothing.
use Rattle.std.specs.Prelude.{ℕ, ◌%◌, List, [], ◌∷◌, not, length, ltb, eqb, Result, ⊤}
use Rattle.base.specs.declared.Refusal.{Refusal}
use Rattle.base.specs.Causes.{given, first_of}
use Rattle.base.specs.Counted.{count_unless}
use Rattle.base.specs.Limits.{CLASS_RECORD, MOST_CLASSES}
use Rattle.base.specs.declared.refusals.Cause.TheVariants.{BadClasses}
use Rattle.class_records.specs.Records.{records, first_bad}

-- its length: "divisible by 24"
unfoldable pub bad_length : List ℕ → Result ⊤ Refusal
bad_length t = given (not (eqb (length t % CLASS_RECORD) 0)) BadClasses 0

-- its number: "at most 8,192 records"
unfoldable pub bad_number : List ℕ → Result ⊤ Refusal
bad_number t = given (ltb MOST_CLASSES (records t)) BadClasses 0

-- a record
unfoldable pub bad_record : List ℕ → Result ⊤ Refusal
bad_record t = given (not (eqb (first_bad t) (records t))) BadClasses (first_bad t)

-- 5: "class table not good"
unfoldable pub bad_classes : List ℕ → Result ⊤ Refusal
bad_classes t = first_of (bad_length t ∷ bad_number t ∷ bad_record t ∷ [])

unfoldable pub checked : List ℕ → Result ℕ Refusal
checked t = count_unless (bad_classes t) (records t)
