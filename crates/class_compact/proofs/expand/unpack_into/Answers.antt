-- The first i records stand at the front of the output, and the rest is as it was; the largest place so far is held beside them. Assumes nothing.
use Rattle.class_compact_meaning.proofs.Laws.Unpacked.{expansion_length}
use Rattle.class_compact.proofs.Loops.InFirstUse.{seen_start, seen_more, seen_end}
use Rattle.class_compact.proofs.Loops.Laying.{laying_start, laying_more, laying_end}
use Rattle.class_compact_meaning.specs.Unpacked.{unpacked}
use Rattle.class_compact.proofs.expand.unpack_into.Goals as goal

pub loop-i-init : goal.loop-i-init
loop-i-init c =
    (laying_start _ _ _ _ (expansion_length _ _) c.requires, seen_start _)

pub loop-i-preserved : goal.loop-i-preserved
loop-i-preserved c = (
  laying_more _ _ _ _ c.loop-i.invariant.0 c.loop-i-test.true _ _ c.expanded-record.ensures c.lay.ensures,
  seen_more _ _ _ _ _ _ c.loop-i.invariant.1 c.loop-i-test.true c.place_of-place.ensures c.pick-seen.ensures,
)

pub returns : goal.returns
unfolding unpacked
returns c =
    record {
      value = seen_end _ _ _ _ _ c.loop-i.invariant.1 c.loop-i-test.false;
      out_after = laying_end _ _ _ _ c.loop-i.invariant.0 c.loop-i-test.false;
    }
