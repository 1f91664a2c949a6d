use Rattle.page.proofs.Loops.Laying.{Laying}
use Rattle.page.proofs.points.lay_points.Given as goal

abbrev pub invariant-loop-b : goal.invariant-loop-b
invariant-loop-b l = Laying l.page l.points l.b
