use Prim.Native.Nat.{◌-◌}
use Rattle.md.proofs.Loops.Going.{Going}
use Rattle.md.proofs.scan.scan_text_in.Given as goal

abbrev pub invariant-loop-i : goal.invariant-loop-i
invariant-loop-i l = Going l.classes l.pairs l.text l.limit l.n l.s l.i

abbrev pub decreases-loop-i : goal.decreases-loop-i
decreases-loop-i l = l.n - l.i
