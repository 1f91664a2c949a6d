use Rattle.base.proofs.Loops.Putting.{Putting}
use Rattle.utf8_form.proofs.ascii.narrow.Given as goal

abbrev pub invariant-loop-k : goal.invariant-loop-k
invariant-loop-k l = Putting l.initial.out l.at l.ascii l.out l.k
