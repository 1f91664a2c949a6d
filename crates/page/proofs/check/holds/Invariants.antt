use Rattle.base.proofs.Loops.Looking.{Looking}
use Rattle.page.proofs.check.holds.Given as goal

abbrev pub invariant-loop-y : goal.invariant-loop-y
invariant-loop-y l = Looking l.list l.x l.held l.y-index
