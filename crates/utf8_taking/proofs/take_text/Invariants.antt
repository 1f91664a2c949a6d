use Prim.Native.Nat.{◌-◌}
use lib.ListN.{length}
use Rattle.utf8_taking.specs.Inner.Taking.{Taken}
use Rattle.utf8_taking.proofs.take_text.Given as goal

abbrev pub invariant-loop-from : goal.invariant-loop-from
invariant-loop-from l = Taken l.bytes l.initial.out l.out 0 0 l.from l.to

abbrev pub decreases-loop-from : goal.decreases-loop-from
decreases-loop-from l = length l.bytes - l.from
