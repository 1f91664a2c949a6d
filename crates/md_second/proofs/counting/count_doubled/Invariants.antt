use Rattle.md_second.proofs.Loops.Counting.{doubled_of, DoubledUpto}
use Rattle.md_second.proofs.counting.count_doubled.Given as goal

abbrev pub invariant-loop-i : goal.invariant-loop-i
invariant-loop-i l = DoubledUpto l.flags l.bases l.n l.i (doubled_of l.letters l.doubled l.last l.last_base)
