-- A layer starts within the case's words, and the work area keeps its size. Assumes nothing.
use Prim.Native.Nat.{◌≤◌}
use mathlib.Core.Path.{◌≡◌}
use lib.ListN.{length}
use Rattle.replay_layers.specs.Inner.Filling.{LAST_WORD}
use Rattle.replay_layers.proofs.same_layers.Given as goal

abbrev pub invariant-loop-k : goal.invariant-loop-k
invariant-loop-k l = (l.at ≤ LAST_WORD) × (length l.work ≡ length l.initial.work)
