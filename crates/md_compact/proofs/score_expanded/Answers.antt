-- The front of the room is the expansion. Assumes nothing.
use Prim.Native.Nat.{◌*◌}
use Rattle.base.specs.Limits.{CLASS_RECORD, MOST_CLASSES}
use Rattle.class_compact_meaning.proofs.Laws.Links.{zeros_length}
use Rattle.class_compact_meaning.proofs.Laws.Calls.{room_fits, expansion_front}
use lib.ListN.{length-take}
use native.Mathlib.Omega.{arith}
use Rattle.md_compact.proofs.score_expanded.Goals as goal

pub slice_bounds-unpack_into-end : goal.slice_bounds-unpack_into-end
slice_bounds-unpack_into-end c = zeros_length (MOST_CLASSES * CLASS_RECORD)

pub unpack_into-ordered-requires : goal.unpack_into-ordered-requires
unpack_into-ordered-requires c =
    room_fits (MOST_CLASSES * CLASS_RECORD) _ (omega (arith, c.requires.few))

pub slice_bounds-score_table-end : goal.slice_bounds-score_table-end
slice_bounds-score_table-end c =
    simp length-take (omega (arith, c.requires.few))

pub score_table-requires : goal.score_table-requires
score_table-requires c =
    record {
      filled = record { sized = c.requires; is = expansion_front _ _ (MOST_CLASSES * CLASS_RECORD) _ (omega (arith, c.requires.few)) c.unpack_into-ordered.ensures.out_after };
      order = c.unpack_into-ordered.ensures.value;
    }
