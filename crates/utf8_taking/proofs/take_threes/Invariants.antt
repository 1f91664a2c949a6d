use Prim.Native.Nat.{◌-◌}
use lib.ListN.{length}
use Rattle.utf8_taking.specs.Inner.Taking.{Taken}
use Rattle.utf8_taking.proofs.take_threes.Given as goal

abbrev pub invariant-loop-i : goal.invariant-loop-i
invariant-loop-i l = Taken l.bytes l.initial.out l.out l.from l.to l.i l.n

abbrev pub decreases-loop-i : goal.decreases-loop-i
decreases-loop-i l = length l.bytes - l.i
