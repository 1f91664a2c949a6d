-- "Either form, if good, goes to the other and back with the same bytes" (02 [9]): a good table packs to a good compact one, whose expansion is the table
-- (`packed_unpacked`); and a good compact table's expansion is a good table, which packs to the same records and letters (`unpacked_packed`). Of lists of
-- bytes, as every lent one is.
-- Assumes nothing.
use Rattle.std.specs.Prelude.{Ok}
use Prim.Native.Nat.{ℕ, ◌%◌}
use mathlib.Core.Path.{◌≡◌}
use mathlib.Core.Bool.{true}
use mathlib.Core.List.{List}
use lib.Dec.{eqb}
use lib.ListN.{length}
use borrow.Author.Tests.{eqb-true, not-false}
use Rattle.base.specs.declared.refusals.Cause.TheVariants.{BadClasses}
use Rattle.base.proofs.Laws.Causes.{first_free, given_free}
use Rattle.class_records.specs.Records.{good_table}
use Rattle.class_compact_meaning.specs.Form.{COMPACT_RECORD, Bytes}
use Rattle.class_compact_meaning.specs.Unpacked.{unpacked}
use Rattle.class_compact_meaning.specs.Check.{bad_compact_length, bad_compact}
use Rattle.class_compact_meaning.specs.Packed.{packed_records, packed_letters}
use Rattle.class_compact_meaning.specs.Inner.Form.{Sized}
use Rattle.class_compact_meaning.proofs.Laws.Calls.{allowed_few}
use Rattle.class_compact_meaning.proofs.Laws.Packing.{packed_back, packed_good}
use Rattle.class_compact_meaning.proofs.Laws.Unpacking.{unpacked_good, records_back, letters_back}

-- what passes has an allowed length and number
pub allowed_sized : (c l : List ℕ) → bad_compact c l ≡ Ok tt → Sized c
unfolding bad_compact bad_compact_length
allowed_sized c l e =
    record {
      whole = eqb-true _ _ (not-false (eqb (length c % COMPACT_RECORD) 0) (given_free _ BadClasses 0 (first_free (bad_compact_length c) _ e).0));
      few = allowed_few c l e;
    }

pub packed_unpacked : (t : List ℕ) → Bytes t → good_table t ≡ true
    → (bad_compact (packed_records t) (packed_letters t) ≡ Ok tt) × (unpacked (packed_records t) (packed_letters t) ≡ t)
packed_unpacked t b g = (packed_good t g b, packed_back t g b)

pub unpacked_packed : (c l : List ℕ) → Bytes c → bad_compact c l ≡ Ok tt
    → (good_table (unpacked c l) ≡ true) × (packed_records (unpacked c l) ≡ c) × (packed_letters (unpacked c l) ≡ l)
unpacked_packed c l b e =
    (unpacked_good c l (allowed_sized c l e) e, records_back c l (allowed_sized c l e) e b, letters_back c l (allowed_sized c l e) e)
