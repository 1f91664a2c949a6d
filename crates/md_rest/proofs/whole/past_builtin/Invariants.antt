use Prim.Native.Nat.{◌-◌}
use lib.ListN.{length}
use Rattle.md_rest.specs.Inner.Whole.{Passed}
use Rattle.md_rest.proofs.whole.past_builtin.Given as goal

abbrev pub invariant-loop-i : goal.invariant-loop-i
invariant-loop-i l = Passed l.text l.from l.i

abbrev pub decreases-loop-i : goal.decreases-loop-i
decreases-loop-i l = length l.text - l.i
