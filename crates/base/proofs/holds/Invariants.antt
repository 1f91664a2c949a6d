use Rattle.base.proofs.Loops.Looking.{Looking}
use Rattle.base.proofs.holds.Given as goal

abbrev pub invariant-loop-y : goal.invariant-loop-y
invariant-loop-y l = Looking l.list l.x l.held l.y-index
