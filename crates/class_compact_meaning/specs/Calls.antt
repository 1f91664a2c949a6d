-- What packing, unpacking and the check of a compact table answer and leave in what is lent, for every input (02 [9]): "Refusals: 5 as before ..; 3
-- after it." The counts are records and letters. "Any refusal gives .. counts of 0, and changes nothing lent" (01).
-- Assumes nothing.
use Rattle.std.specs.Prelude.{ℕ, ◌||◌, List, [], ◌∷◌, ltb, length, Result, Ok, Err, ⊤}
use Rattle.base.specs.declared.Refusal.{Refusal}
use Rattle.base.specs.Causes.{given, first_of}
use Rattle.base.specs.Counted.{count_unless, lent_after}
use Rattle.base.specs.Refusals.{ACCEPTED, number_of}
use Rattle.base.specs.declared.refusals.Cause.TheVariants.{NoRoom}
use Rattle.class_records.specs.Records.{records}
use Rattle.classes.specs.Check.{bad_classes}
use Rattle.class_compact_meaning.specs.Form.{compact_records, letters_in}
use Rattle.class_compact_meaning.specs.Unpacked.{unpacked}
use Rattle.class_compact_meaning.specs.Check.{bad_compact}
use Rattle.class_compact_meaning.specs.Packed.{packed_records, packed_letters}
use Rattle.class_compact_meaning.specs.declared.Packed.{Packed}

-- the check: how many records, or 5
unfoldable pub check_answer : List ℕ → List ℕ → Result ℕ Refusal
check_answer c l = count_unless (bad_compact c l) (compact_records c)

-- unpacking into an output of some room: 5, then 3
unfoldable pub unpack_causes : List ℕ → List ℕ → ℕ → Result ⊤ Refusal
unpack_causes c l room = first_of (bad_compact c l ∷ given (ltb room (length (unpacked c l))) NoRoom 0 ∷ [])

-- how many records
unfoldable pub unpack_answer : List ℕ → List ℕ → ℕ → Result ℕ Refusal
unpack_answer c l room = count_unless (unpack_causes c l room) (compact_records c)

unfoldable pub unpack_after : List ℕ → List ℕ → List ℕ → List ℕ
unpack_after c l out = lent_after (unpack_causes c l (length out)) (unpacked c l) out

-- packing into two outputs: 5, then 3 for either
unfoldable pub pack_causes : List ℕ → ℕ → ℕ → Result ⊤ Refusal
pack_causes t in_records in_letters =
    first_of
    (bad_classes t
    ∷ given (ltb in_records (length (packed_records t)) || ltb in_letters (length (packed_letters t))) NoRoom 0
    ∷ [])

-- how many records and letters where no cause is there, else the refusal
unfoldable pub packed_unless : Result ⊤ Refusal → ℕ → ℕ → Result Packed Refusal
packed_unless (Ok u) r l = Ok (record { records = r; letters = l })
packed_unless (Err r) _ _ = Err r

unfoldable pub pack_answer : List ℕ → ℕ → ℕ → Result Packed Refusal
pack_answer t in_records in_letters = packed_unless (pack_causes t in_records in_letters) (records t) (letters_in (packed_letters t))

-- both outputs after the call
unfoldable pub records_after : List ℕ → List ℕ → ℕ → List ℕ
records_after t out in_letters = lent_after (pack_causes t (length out) in_letters) (packed_records t) out

unfoldable pub letters_after : List ℕ → ℕ → List ℕ → List ℕ
letters_after t in_records out = lent_after (pack_causes t in_records (length out)) (packed_letters t) out

pub record Values : Type 0 where
  pub number : ℕ
  pub place : ℕ
  pub records : ℕ
  pub letters : ℕ

-- 01's number and values of each case
unfoldable pub values : Result Packed Refusal → Values
values (Ok p) = record { number = ACCEPTED; place = 0; records = p.records; letters = p.letters }
values (Err r) = record { number = number_of r.cause; place = r.place; records = 0; letters = 0 }
