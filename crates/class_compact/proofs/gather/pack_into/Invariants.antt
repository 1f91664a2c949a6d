use Rattle.class_compact.proofs.Loops.Gathering.{Gathering}
use Rattle.class_compact.proofs.gather.pack_into.Given as goal

abbrev pub invariant-loop-i : goal.invariant-loop-i
invariant-loop-i l = Gathering l.classes l.initial.packed l.initial.used l.packed l.used l.count l.links l.i
