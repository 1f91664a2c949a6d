use Rattle.class_records.proofs.Loops.InOrder.{Reduced}
use Rattle.class_records.proofs.none_bad.Given as goal

abbrev pub invariant-loop-i : goal.invariant-loop-i
invariant-loop-i l = Reduced l.t l.i l.end l.good
