use Rattle.md_eight.proofs.Loops.Detectors.{Within}
use Rattle.replay_plugins.proofs.fed_all.Given as goal

abbrev pub invariant-loop-k : goal.invariant-loop-k
invariant-loop-k l = Within l.k-index l.s
