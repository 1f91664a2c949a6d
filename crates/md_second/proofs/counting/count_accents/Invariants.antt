use Rattle.md_second.proofs.Loops.Counting.{accents_of, AccentsUpto}
use Rattle.md_second.proofs.counting.count_accents.Given as goal

abbrev pub invariant-loop-f : goal.invariant-loop-f
invariant-loop-f l = AccentsUpto l.flags l.n l.f-index (accents_of l.letters l.accented)
