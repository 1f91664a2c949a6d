use Rattle.base.proofs.Loops.Putting.{Putting}
use Rattle.cd_languages.specs.Letters.{letters_of}
use Rattle.cd_languages.proofs.slots.read_letters.Given as goal

abbrev pub invariant-loop-k : goal.invariant-loop-k
invariant-loop-k l = Putting l.initial.out 0 (letters_of l.t l.i) l.out l.k
