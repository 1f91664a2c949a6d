-- Each return is one of the causes, or the packed table in its outputs. Assumes nothing.
use Rattle.class_compact_meaning.proofs.Laws.Calls.{room_first, room_second, letters_few, pack_short, pack_done}
use Rattle.class_compact_meaning.specs.Form.{letters_in}
use Rattle.class_records.proofs.Laws.Records.{table_number}
use lib.ListN.{length}
use mathlib.Core.Path.{ap}
use native.Mathlib.Omega.{arith}
use Rattle.class_compact.proofs.put_out.Goals as goal

pub returns-then-records-packed : goal.returns-then-records-packed
returns-then-records-packed c =
    let told = pack_short _ _ _ c.requires.0 (rw (c.requires.1, c.requires.2) at c.if-records-packed.true) in
    record { value = rw c.refuse.ensures told.0; records_after = told.1.0; letters_after = told.1.1 }

pub lay-requires : goal.lay-requires
lay-requires c =
    let fits = room_first (length c.args.records.now) (length c.args.packed.now) (length c.args.letters.now)
    (length c.args.used.now) c.if-records-packed.false in
    omega (arith, fits)

pub lay-requires-2 : goal.lay-requires-2
lay-requires-2 c =
    let fits = room_second (length c.args.records.now) (length c.args.packed.now) (length c.args.letters.now)
    (length c.args.used.now) c.if-records-packed.false in
    omega (arith, fits)

pub overflow_cast-classes : goal.overflow_cast-classes
overflow_cast-classes c =
    let few = table_number _ c.requires.0 in omega (arith, few)

pub overflow_cast-used : goal.overflow_cast-used
overflow_cast-used c =
    let few = letters_few _ _ c.requires.0 (ap letters_in c.requires.2) in omega (arith, few)

pub returns : goal.returns
returns c =
    let told = pack_done _ _ _ c.requires.0 (rw (c.requires.1, c.requires.2) at c.if-records-packed.false) in
    record {
      value = rw (c.packing_done.ensures, c.requires.2) told.0;
      records_after = rw (c.lay.ensures, c.requires.1) told.1.0;
      letters_after = rw (c.lay-2.ensures, c.requires.2) told.1.1;
    }
