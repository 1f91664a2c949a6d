-- The front of the room is the expansion. Assumes nothing.
use Prim.Native.Nat.{◌*◌}
use Rattle.base.specs.Limits.{CLASS_RECORD, MOST_CLASSES}
use Rattle.class_compact_meaning.proofs.Laws.Links.{zeros_length}
use Rattle.class_compact_meaning.proofs.Laws.Calls.{room_fits, expansion_front}
use lib.ListN.{length-take}
use native.Mathlib.Omega.{arith}
use Rattle.class_compact.proofs.bad_expanded.Goals as goal

pub slice_bounds-unpack_into-end : goal.slice_bounds-unpack_into-end
slice_bounds-unpack_into-end c = zeros_length (MOST_CLASSES * CLASS_RECORD)

pub unpack_into-ordered-requires : goal.unpack_into-ordered-requires
unpack_into-ordered-requires c =
    room_fits (MOST_CLASSES * CLASS_RECORD) _ (omega (arith, c.requires.few))

pub slice_bounds-bad_filled-end : goal.slice_bounds-bad_filled-end
slice_bounds-bad_filled-end c = simp length-take (omega (arith, c.requires.few))

pub bad_filled-requires : goal.bad_filled-requires
bad_filled-requires c =
    record {
      filled = record { sized = c.requires; is = expansion_front _ _ (MOST_CLASSES * CLASS_RECORD) _ (omega (arith, c.requires.few)) c.unpack_into-ordered.ensures.out_after };
      order = c.unpack_into-ordered.ensures.value;
    }
