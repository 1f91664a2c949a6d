use Rattle.class_records.proofs.Loops.InOrder.{Walked}
use Rattle.class_records.proofs.first_bad.Given as goal

abbrev pub invariant-loop-i : goal.invariant-loop-i
invariant-loop-i l = Walked l.t l.i l.end
