use Rattle.cd_layers.specs.Layers.{accepts}
use Rattle.cd_layers.proofs.Loops.Looking.{Looking}
use Rattle.cd_layers.proofs.layer_for.Given as goal

abbrev pub invariant-loop-j : goal.invariant-loop-j
invariant-loop-j l = Looking (accepts l.pairs l.range) l.keys l.j
