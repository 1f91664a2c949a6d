use Rattle.cd_taken.proofs.Loops.Filling.{Filling}
use Rattle.cd_taken.proofs.fill_each.Given as goal

abbrev pub invariant-loop-point : goal.invariant-loop-point
invariant-loop-point l = Filling l.classes l.text l.initial.work l.work l.k l.point-index
