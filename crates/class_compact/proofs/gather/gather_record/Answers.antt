-- The record is laid behind the others, and its letters where their place is past all. Assumes nothing.
use Rattle.class_compact_meaning.proofs.Laws.Among.{among_few, gathered_old, gathered_new}
use Rattle.class_compact_meaning.proofs.Laws.Packed.{compacted_length}
use lib.ListN.{length-take}
use native.Mathlib.Omega.{arith}
use Rattle.class_compact.proofs.gather.gather_record.Goals as goal

pub place_among-place-requires : goal.place_among-place-requires
place_among-place-requires c =
    c.requires.0

pub compact_record-record-requires : goal.compact_record-record-requires
compact_record-record-requires c =
    (c.requires.0.inside, omega (arith, c.place_among-place.ensures.few, among_few _ _ _ _ _ c.requires.0), c.place_among-place.ensures.is)

pub overflow_mul-i : goal.overflow_mul-i
overflow_mul-i c =
    omega (arith, c.requires.1)

pub lay-requires : goal.lay-requires
lay-requires c =
    rw (c.compact_record-record.ensures, compacted_length) c.requires.1

pub returns-then-place-count : goal.returns-then-place-count
returns-then-place-count c =
    gathered_old _ _ _ _ _ c.requires.0 _ _ c.place_among-place.ensures _ _ _ c.compact_record-record.ensures c.lay.ensures c.if-place-count.true

pub overflow_mul-from : goal.overflow_mul-from
overflow_mul-from c =
    omega (arith, c.requires.0.inside)

pub overflow_add-from : goal.overflow_add-from
overflow_add-from c =
    omega (arith, c.requires.0.inside)

pub overflow_add-from-2 : goal.overflow_add-from-2
overflow_add-from-2 c =
    omega (arith, c.requires.0.inside)

pub overflow_mul-count : goal.overflow_mul-count
overflow_mul-count c =
    omega (arith, among_few _ _ _ _ _ c.requires.0)

pub lay-requires-2 : goal.lay-requires-2
lay-requires-2 c =
    simp length-take (omega (arith, among_few _ _ _ _ _ c.requires.0, c.requires.0.room))

pub returns : goal.returns
returns c =
    gathered_new _ _ _ _ _ c.requires.0 _ _ c.place_among-place.ensures _ _ _ c.compact_record-record.ensures
    c.lay.ensures c.if-place-count.false _ c.lay-2.ensures
