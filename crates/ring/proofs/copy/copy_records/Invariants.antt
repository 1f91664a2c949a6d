use Rattle.ring.proofs.Loops.Copying.{Copying}
use Rattle.ring.proofs.copy.copy_records.Given as goal

abbrev pub invariant-loop-i : goal.invariant-loop-i
invariant-loop-i l = Copying l.ring l.head l.n l.initial.out l.out l.i
