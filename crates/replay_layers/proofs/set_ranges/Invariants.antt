use Rattle.replay_layers.proofs.Loops.Filling.{Filling}
use Rattle.replay_layers.proofs.set_ranges.Given as goal

abbrev pub invariant-loop-i : goal.invariant-loop-i
invariant-loop-i l = Filling l.n l.initial.work l.work l.i
