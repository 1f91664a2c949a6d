use Rattle.md_running.proofs.Loops.Above.{Looked}
use Rattle.md_running.proofs.state.any_above.Given as goal

abbrev pub invariant-loop-x : goal.invariant-loop-x
invariant-loop-x l = Looked l.list l.most l.above l.x-index
