use Prim.Native.Nat.{◌-◌}
use Rattle.md_rest.proofs.Loops.Rest.{Walking}
use Rattle.md_rest.proofs.rest.unclassed_within.Given as goal

abbrev pub invariant-loop-i : goal.invariant-loop-i
invariant-loop-i l = Walking l.classes l.text l.from l.end l.i

abbrev pub decreases-loop-i : goal.decreases-loop-i
decreases-loop-i l = l.end - l.i
