use Rattle.utf8_taking.proofs.Loops.Taking.{Placed}
use Rattle.utf8_taking.proofs.put_twos.Given as goal

abbrev pub invariant-loop-j : goal.invariant-loop-j
invariant-loop-j l = Placed l.bytes l.initial.out l.from l.to l.out l.j
