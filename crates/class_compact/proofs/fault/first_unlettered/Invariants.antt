use Rattle.class_compact.proofs.Loops.Seeking.{Seeking}
use Rattle.class_compact_meaning.specs.Check.{missing}
use Rattle.class_compact.proofs.fault.first_unlettered.Given as goal

abbrev pub invariant-loop-i : goal.invariant-loop-i
invariant-loop-i l = Seeking (missing l.records l.letters) l.n l.i
