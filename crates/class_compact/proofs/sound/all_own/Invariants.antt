use Rattle.class_compact_meaning.proofs.Laws.Own.{Owning}
use Rattle.class_compact.proofs.sound.all_own.Given as goal

abbrev pub invariant-loop-k : goal.invariant-loop-k
invariant-loop-k l = Owning l.letters l.links l.k
