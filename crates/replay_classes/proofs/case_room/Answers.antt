-- As many zeros as there is room. Assumes nothing.
use Prim.Native.Nat.{ℕ}
use mathlib.Core.Path.{sym}
use lib.ListN.{length-replicate}
use Rattle.replay_classes.specs.Inner.Sizes.{CASE_BYTES}
use Rattle.replay_classes.proofs.case_room.Goals as goal

pub returns : goal.returns
returns c = sym (length-replicate {A = ℕ} CASE_BYTES 0)
