use Rattle.cd_taken.proofs.Loops.Filling.{Filling}
use Rattle.cd_taken.proofs.fill_single.Given as goal

abbrev pub invariant-loop-i : goal.invariant-loop-i
invariant-loop-i l = Filling l.classes l.text l.initial.work l.work l.i l.i
