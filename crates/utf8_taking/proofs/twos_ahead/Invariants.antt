use Rattle.utf8_taking.proofs.Loops.Taking.{Backward}
use Rattle.utf8_taking.proofs.twos_ahead.Given as goal

abbrev pub invariant-loop-j : goal.invariant-loop-j
invariant-loop-j l = Backward l.bytes l.from l.first l.j
