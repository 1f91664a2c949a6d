use Rattle.page.proofs.Loops.Marking.{Marking}
use Rattle.page.proofs.check.first_bad.Given as goal

abbrev pub invariant-loop-i : goal.invariant-loop-i
invariant-loop-i l = Marking l.page l.marks l.i
