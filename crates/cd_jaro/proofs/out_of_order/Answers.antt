-- What is counted so far and what is left to count are all that differ (`Counting`).
-- Assumes nothing.
use Rattle.cd_jaro.proofs.Loops.OutOfOrder.{counting_skip, counting_room, counting_pick, counting_end}
use Rattle.cd_jaro.proofs.out_of_order.Goals as goal
use Rattle.cd_jaro.proofs.out_of_order.Goals.{then-taken-j, else-taken-j}

pub bounds-letters-k : goal.bounds-letters-k
bounds-letters-k c =
    counting_room _ _ _ c.loop-j.invariant c.loop-j-test.true c.requires.flags c.if-taken-j.true

pub loop-j-preserved : goal.loop-j-preserved
loop-j-preserved c =
    elim c.if-taken-j.branch [
      | then-taken-j w ↦ rw (w.out-is, w.k-is) (counting_pick _ _ _ c.loop-j.invariant c.loop-j-test.true c.requires.flags w.if-taken-j.true w.one.ensures)
      | else-taken-j w ↦ rw (w.out-is, w.k-is) (counting_skip _ _ _ c.loop-j.invariant c.loop-j-test.true c.requires.flags w.if-taken-j.false)
    ]

pub returns : goal.returns
returns c = counting_end _ _ _ c.loop-j.invariant c.loop-j-test.false
