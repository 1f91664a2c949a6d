use Rattle.class_compact.proofs.Loops.Seeking.{Seeking}
use Rattle.class_compact_meaning.specs.Check.{letters_are}
use Rattle.class_compact.proofs.form.find_letters.Given as goal

abbrev pub invariant-loop-k : goal.invariant-loop-k
invariant-loop-k l = Seeking (letters_are l.letters l.base l.lower) l.end l.k
