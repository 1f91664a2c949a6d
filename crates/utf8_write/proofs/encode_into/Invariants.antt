use Prim.Native.Nat.{◌-◌}
use lib.ListN.{length}
use Rattle.utf8_write.proofs.Loops.Writing.{Writing}
use Rattle.utf8_write.proofs.encode_into.Given as goal

abbrev pub invariant-loop-from : goal.invariant-loop-from
invariant-loop-from l = Writing l.text l.initial.out 0 l.out l.from l.to

abbrev pub decreases-loop-from : goal.decreases-loop-from
decreases-loop-from l = length l.text - l.from
