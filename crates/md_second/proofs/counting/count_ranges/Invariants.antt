use Rattle.md_second.proofs.Loops.Counting.{ranges_of, RangesUpto}
use Rattle.md_second.proofs.counting.count_ranges.Given as goal

abbrev pub invariant-loop-i : goal.invariant-loop-i
invariant-loop-i l = RangesUpto l.flags l.ranges l.pairs l.n l.i (ranges_of l.printed l.suspicious l.seen l.last)
