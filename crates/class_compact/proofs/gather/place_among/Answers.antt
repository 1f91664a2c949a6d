-- What is noted has its place, and what is not comes behind all that are. Assumes nothing.
use Rattle.class_compact_meaning.proofs.Laws.Among.{among_none, among_few, among_linked, among_old, among_new}
use Rattle.class_compact_meaning.specs.Packed.{plain}
use native.Mathlib.Omega.{arith}
use Rattle.class_compact.proofs.gather.place_among.Goals as goal

pub record_at-r-requires : goal.record_at-r-requires
record_at-r-requires c =
    c.requires.inside

pub returns-then-r : goal.returns-then-r
unfolding plain
returns-then-r c =
    among_none _ _ _ _ _ c.requires (rw c.record_at-r.ensures at c.if-r.true)

pub slot_for-slot-requires : goal.slot_for-slot-requires
slot_for-slot-requires c =
    among_linked _ _ _ _ _ c.requires

pub offset_bounds-links-slot : goal.offset_bounds-links-slot
offset_bounds-links-slot c =
    omega (arith, c.slot_for-slot.ensures.walked.below, among_few _ _ _ _ _ c.requires)

pub bounds-links-slot : goal.bounds-links-slot
bounds-links-slot c =
    omega (arith, c.slot_for-slot.ensures.walked.below, among_few _ _ _ _ _ c.requires)

pub overflow_cast-place : goal.overflow_cast-place
overflow_cast-place c =
    omega (arith, c.requires.linked.small c.slot_for-slot.result, among_few _ _ _ _ _ c.requires)

pub returns-then-place-ne0 : goal.returns-then-place-ne0
unfolding plain
returns-then-place-ne0 c =
    among_old _ _ _ _ _ c.requires _ _ _ (rw c.record_at-r.ensures at c.if-r.false) (rw c.record_at-r.ensures) (rw c.record_at-r.ensures)
    c.slot_for-slot.ensures c.if-place-ne0.true

pub overflow_add-links : goal.overflow_add-links
overflow_add-links c =
    omega (arith, among_few _ _ _ _ _ c.requires)

pub overflow_cast-links : goal.overflow_cast-links
overflow_cast-links c =
    omega (arith, among_few _ _ _ _ _ c.requires)

pub offset_bounds-links-slot-2 : goal.offset_bounds-links-slot-2
offset_bounds-links-slot-2 c =
    omega (arith, c.slot_for-slot.ensures.walked.below, among_few _ _ _ _ _ c.requires)

pub bounds-links-slot-2 : goal.bounds-links-slot-2
bounds-links-slot-2 c =
    omega (arith, c.slot_for-slot.ensures.walked.below, among_few _ _ _ _ _ c.requires)

pub overflow_add-result : goal.overflow_add-result
overflow_add-result c =
    omega (arith, among_few _ _ _ _ _ c.requires)

pub returns : goal.returns
unfolding plain
returns c =
    among_new _ _ _ _ _ c.requires _ _ _ (rw c.record_at-r.ensures at c.if-r.false) (rw c.record_at-r.ensures) (rw c.record_at-r.ensures)
    c.slot_for-slot.ensures c.if-place-ne0.false
