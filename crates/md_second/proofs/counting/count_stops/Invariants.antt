use Rattle.md_second.proofs.Loops.Counting.{stops_of, StopsUpto}
use Rattle.md_second.proofs.counting.count_stops.Given as goal

abbrev pub invariant-loop-i : goal.invariant-loop-i
invariant-loop-i l = StopsUpto l.points l.flags l.n l.i (stops_of l.wrong l.cjk)
