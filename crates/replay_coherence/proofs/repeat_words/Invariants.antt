use Rattle.std.proofs.Common.{◌≤◌}
use Rattle.replay_coherence.proofs.repeat_words.Given as goal

abbrev pub invariant-loop-x : goal.invariant-loop-x
invariant-loop-x l = l.from ≤ l.p
