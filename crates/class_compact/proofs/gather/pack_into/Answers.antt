-- The first i records stand in the one room, and the letters that they use in the other, all of them noted. Assumes nothing.
use Rattle.class_compact.proofs.Loops.Gathering.{gathering_start, gathering_placed, gathering_more, gathered_records, gathered_letters, gathered_number}
use Rattle.class_compact.proofs.Loops.Laying.{laying_room}
use Rattle.class_compact.proofs.gather.pack_into.Goals as goal

pub loop-i-init : goal.loop-i-init
loop-i-init c =
    gathering_start _ _ _ c.requires.0 c.requires.1 c.requires.2

pub gather_record-count-requires : goal.gather_record-count-requires
gather_record-count-requires c =
    (gathering_placed _ _ _ c.loop-i.invariant c.loop-i-test.true, laying_room _ _ _ _ c.loop-i.invariant.laid c.loop-i-test.true)

pub loop-i-preserved : goal.loop-i-preserved
loop-i-preserved c =
    gathering_more _ _ _ c.loop-i.invariant c.loop-i-test.true _ _ _ _ c.gather_record-count.ensures

pub returns : goal.returns
returns c =
    let done = c.loop-i.invariant in
    record {
      value = gathered_number _ _ _ done c.loop-i-test.false;
      packed_after = gathered_records _ _ _ done c.loop-i-test.false;
      used_after = gathered_letters _ _ _ done c.loop-i-test.false;
    }
