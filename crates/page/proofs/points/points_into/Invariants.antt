use Rattle.page.proofs.Loops.Copying.{Copying}
use Rattle.page.proofs.points.points_into.Given as goal

abbrev pub invariant-loop-i : goal.invariant-loop-i
invariant-loop-i l = Copying l.points l.bytes l.initial.out l.out l.i
