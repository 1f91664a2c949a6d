-- The invariant: the two counts are those after i characters. Assumes nothing.
use Rattle.md_second.proofs.Loops.Upto.{upto_end}
use Rattle.md_counts.specs.CjkInvalidStop.{counts}
use Rattle.md_second.proofs.Loops.Counting.{stops_start, stops_more}
use Rattle.md_second.proofs.counting.count_stops.Goals as goal

pub loop-i-init : goal.loop-i-init
loop-i-init c = stops_start _ _ _

pub loop-i-preserved : goal.loop-i-preserved
loop-i-preserved c =
    stops_more _ _ c.loop-i.invariant c.loop-i-test.true c.is_set.ensures c.one-wrong.ensures.is c.one-cjk.ensures.is

pub returns : goal.returns
unfolding counts
returns c = rw (← upto_end _ _ _ _ _ c.loop-i.invariant c.loop-i-test.false) c.counts_of.ensures
