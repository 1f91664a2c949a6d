-- Letters that have a place before theirs are a repeat; others are noted. Assumes nothing.
use Rattle.class_compact_meaning.proofs.Laws.Firsts.{clash}
use Rattle.class_compact_meaning.proofs.Laws.Own.{own_none, own_again, own_free, own_linked}
use mathlib.Core.Path.{refl}
use native.Mathlib.Omega.{arith}
use Rattle.class_compact.proofs.sound.is_own.Goals as goal

pub returns-then-base-lower : goal.returns-then-base-lower
returns-then-base-lower c =
    record { is = own_none _ _ _ _ c.base_at-base.ensures c.lower_at-lower.ensures c.if-base-lower.true; linked = λ e. clash e refl }

pub slot_for-slot-requires : goal.slot_for-slot-requires
slot_for-slot-requires c =
    c.requires.2

pub offset_bounds-links-slot : goal.offset_bounds-links-slot
offset_bounds-links-slot c =
    omega (arith, c.slot_for-slot.ensures.walked.below, c.requires.1)

pub bounds-links-slot : goal.bounds-links-slot
bounds-links-slot c =
    omega (arith, c.slot_for-slot.ensures.walked.below, c.requires.1)

pub returns-then-links-slot-ne0 : goal.returns-then-links-slot-ne0
returns-then-links-slot-ne0 c =
    record {
      is =
          own_again _ _ _ _ c.base_at-base.ensures c.lower_at-lower.ensures c.if-base-lower.false _ _ c.slot_for-slot.ensures c.if-links-slot-ne0.true
          (c.requires.2.small _);
      linked = λ e. clash e refl;
    }

pub overflow_cast-links : goal.overflow_cast-links
overflow_cast-links c =
    omega (arith, c.requires.1)

pub offset_bounds-links-slot-2 : goal.offset_bounds-links-slot-2
offset_bounds-links-slot-2 c =
    omega (arith, c.slot_for-slot.ensures.walked.below, c.requires.1)

pub bounds-links-slot-2 : goal.bounds-links-slot-2
bounds-links-slot-2 c =
    omega (arith, c.slot_for-slot.ensures.walked.below, c.requires.1)

pub returns : goal.returns
returns c =
    record {
      is =
          own_free _ _ _ _ c.base_at-base.ensures c.lower_at-lower.ensures c.if-base-lower.false _ _ c.slot_for-slot.ensures c.if-links-slot-ne0.false;
      linked =
          λ e. own_linked _ _ _ _ c.base_at-base.ensures c.lower_at-lower.ensures _ _ c.requires.2 c.requires.1 c.requires.0
          c.slot_for-slot.ensures c.if-links-slot-ne0.false;
    }
