use Rattle.md_second.proofs.Loops.Comparing.{Comparing}
use Rattle.md_second.proofs.scan.compare_all.Given as goal

abbrev pub invariant-loop-i : goal.invariant-loop-i
invariant-loop-i l = Comparing l.points l.flags l.ranges l.bases l.pairs l.length l.threshold l.total l.i
