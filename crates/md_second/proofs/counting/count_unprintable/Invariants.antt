use Rattle.md_second.proofs.Loops.Counting.{unprintable_of, UnprintableUpto}
use Rattle.md_second.proofs.counting.count_unprintable.Given as goal

abbrev pub invariant-loop-f : goal.invariant-loop-f
invariant-loop-f l = UnprintableUpto l.flags l.n l.f-index (unprintable_of l.f-index l.unprintable)
