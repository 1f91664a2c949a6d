use Rattle.page.proofs.Loops.Inverting.{Inverting}
use Rattle.page.proofs.inverse.invert.Given as goal

abbrev pub invariant-loop-b : goal.invariant-loop-b
invariant-loop-b l = Inverting l.page l.inverse l.b
