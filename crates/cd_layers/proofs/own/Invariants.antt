use Rattle.cd_layers.specs.Layers.{is_own}
use Rattle.cd_layers.proofs.Loops.Looking.{Looking}
use Rattle.cd_layers.proofs.own.Given as goal

abbrev pub invariant-loop-j : goal.invariant-loop-j
invariant-loop-j l = Looking (is_own l.range) l.keys l.j
