-- The walk passes other letters, and each place that it meets lies behind the slot where it stands, so that it ends. Assumes nothing.
use Rattle.class_compact.proofs.Loops.Walking.{walking_start, walking_inside, walking_rises, walking_more, walking_none, walking_some}
use Rattle.class_compact_meaning.specs.Check.{letters_are}
use Rattle.class_compact_meaning.specs.Inner.Links.{bits_of}
use mathlib.Core.Path.{refl}
use native.Mathlib.Omega.{arith}
use Rattle.class_compact.proofs.links.slot_for.Goals as goal

pub loop-slot-init : goal.loop-slot-init
unfolding bits_of
loop-slot-init c = walking_start _ _ _ _ _ c.requires _ _ c.mark_for-slot.ensures refl

pub overflow_cast-place : goal.overflow_cast-place
overflow_cast-place c =
    omega (arith, c.loop-slot.invariant.linked.small c.loop-slot.slot, c.loop-slot.invariant.linked.room, c.loop-slot.invariant.linked.known)

pub base_at-requires : goal.base_at-requires
base_at-requires c =
    omega (arith, c.loop-slot.invariant.linked.small c.loop-slot.slot, c.loop-slot.invariant.linked.room, c.loop-slot.invariant.linked.known)

pub lower_at-requires : goal.lower_at-requires
lower_at-requires c =
    omega (arith, c.loop-slot.invariant.linked.small c.loop-slot.slot, c.loop-slot.invariant.linked.room, c.loop-slot.invariant.linked.known)

pub returns-then-base_at-base : goal.returns-then-base_at-base
unfolding letters_are
returns-then-base_at-base c =
    walking_some _ _ _ _ _ c.loop-slot.invariant c.loop-slot-test.true (rw (c.lower_at.ensures, c.base_at.ensures) at c.if-base_at-base.true)

pub overflow_mul-slot : goal.overflow_mul-slot
overflow_mul-slot c =
    omega (arith, c.loop-slot.invariant.linked.small c.loop-slot.slot, c.loop-slot.invariant.linked.room, c.loop-slot.invariant.linked.known)

pub overflow_add-slot : goal.overflow_add-slot
overflow_add-slot c =
    omega (arith, c.loop-slot.invariant.linked.small c.loop-slot.slot, c.loop-slot.invariant.linked.room, c.loop-slot.invariant.linked.known)

pub overflow_add-slot-in-loop-slot : goal.overflow_add-slot-in-loop-slot
overflow_add-slot-in-loop-slot c =
    omega (arith, c.loop-slot.invariant.linked.small c.loop-slot.slot, c.loop-slot.invariant.linked.room, c.loop-slot.invariant.linked.known)

pub loop-slot-smaller : goal.loop-slot-smaller
loop-slot-smaller c =
    omega (arith, walking_rises _ _ _ _ _ c.loop-slot.invariant c.loop-slot-test.true, walking_inside _ _ _ _ _ c.loop-slot.invariant)

pub loop-slot-preserved : goal.loop-slot-preserved
unfolding letters_are
loop-slot-preserved c =
    walking_more _ _ _ _ _ c.loop-slot.invariant c.loop-slot-test.true (rw (c.lower_at.ensures, c.base_at.ensures) at c.if-base_at-base.false)

pub returns : goal.returns
returns c =
    walking_none _ _ _ _ _ c.loop-slot.invariant c.loop-slot-test.false
