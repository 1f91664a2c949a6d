use Rattle.cd_taken.proofs.Loops.Accents.{Still}
use Rattle.cd_taken.proofs.some_accented.Given as goal

abbrev pub invariant-loop-letter : goal.invariant-loop-letter
invariant-loop-letter l = Still l.classes l.letters l.letter-index
