use Rattle.cd_alphabet.proofs.Loops.Sieve.{Marking}
use Rattle.cd_alphabet.proofs.mark.Given as goal

abbrev pub invariant-loop-x : goal.invariant-loop-x
invariant-loop-x l = Marking l.layer l.initial.sieve l.sieve l.x-index
