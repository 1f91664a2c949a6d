use Prim.Native.Nat.{◌+◌}
use Rattle.class_records.proofs.Loops.Halving.{Halving}
use Rattle.class_records.proofs.search.first_ending.Given as goal

abbrev pub invariant-loop-size : goal.invariant-loop-size
invariant-loop-size l = Halving l.t l.p l.low (l.low + l.size)

abbrev pub decreases-loop-size : goal.decreases-loop-size
decreases-loop-size l = l.size
