-- No more words of the case are read than characters were passed. Assumes nothing.
use Prim.Native.Nat.{◌+◌, ◌≤◌}
use Rattle.replay_layers.proofs.same_letters.Given as goal

abbrev pub invariant-loop-i : goal.invariant-loop-i
invariant-loop-i l = l.j ≤ l.at + l.i
