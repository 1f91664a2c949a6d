use Rattle.cd_layers.proofs.Loops.Splitting.{Going}
use Rattle.cd_layers.proofs.alpha_unicode_split.Given as goal

abbrev pub invariant-loop-i : goal.invariant-loop-i
invariant-loop-i l = Going l.pairs l.slots l.initial.work l.work l.keys l.count l.i
