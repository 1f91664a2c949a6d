-- The fronts of the rooms are the packed table. Assumes nothing.
use Prim.Native.Nat.{◌*◌}
use Rattle.base.specs.Limits.{MOST_CLASSES}
use Rattle.class_compact_meaning.specs.Form.{COMPACT_RECORD, LETTERS_RECORD}
use Rattle.class_compact_meaning.proofs.Laws.Links.{zeros_length}
use Rattle.class_compact_meaning.proofs.Laws.Calls.{letters_few, room_fits, records_front, letters_front}
use Rattle.class_records.proofs.Laws.Records.{table_number}
use lib.ListN.{length-take}
use native.Mathlib.Omega.{arith}
use Rattle.class_compact.proofs.pack_good.Goals as goal

pub slice_bounds-pack_into-end : goal.slice_bounds-pack_into-end
slice_bounds-pack_into-end c = zeros_length (MOST_CLASSES * COMPACT_RECORD)

pub slice_bounds-pack_into-end-2 : goal.slice_bounds-pack_into-end-2
slice_bounds-pack_into-end-2 c = zeros_length (MOST_CLASSES * LETTERS_RECORD)

pub pack_into-count-requires : goal.pack_into-count-requires
pack_into-count-requires c =
    (table_number _ c.requires, room_fits (MOST_CLASSES * COMPACT_RECORD) _ (omega arith), room_fits (MOST_CLASSES * LETTERS_RECORD) _ (omega arith))

pub slice_bounds-packed-end : goal.slice_bounds-packed-end
slice_bounds-packed-end c =
    let few = table_number _ c.requires in
    omega (arith, few)

pub slice_bounds-put_out-end : goal.slice_bounds-put_out-end
slice_bounds-put_out-end c =
    let few = table_number _ c.requires in simp length-take (omega (arith, few))

pub overflow_mul-used : goal.overflow_mul-used
overflow_mul-used c =
    let few = letters_few _ _ c.requires c.pack_into-count.ensures.value in omega (arith, few)

pub slice_bounds-used-end : goal.slice_bounds-used-end
slice_bounds-used-end c =
    let few = letters_few _ _ c.requires c.pack_into-count.ensures.value in
    omega (arith, few)

pub slice_bounds-put_out-end-2 : goal.slice_bounds-put_out-end-2
slice_bounds-put_out-end-2 c =
    let few = letters_few _ _ c.requires c.pack_into-count.ensures.value in simp length-take (omega (arith, few))

pub put_out-requires : goal.put_out-requires
put_out-requires c = (
  c.requires,
  records_front _ (MOST_CLASSES * COMPACT_RECORD) _ (let few = table_number _ c.requires in omega (arith, few)) c.pack_into-count.ensures.packed_after,
  letters_front _ (MOST_CLASSES * LETTERS_RECORD) _ _ c.pack_into-count.ensures.value
      (let few = letters_few _ _ c.requires c.pack_into-count.ensures.value in omega (arith, few)) c.pack_into-count.ensures.used_after,
)
