use Rattle.md_reason.proofs.Loops.Growing.{Counting}
use Rattle.md_reason.proofs.growing.count_growths.Given as goal

abbrev pub invariant-loop-i : goal.invariant-loop-i
invariant-loop-i l = Counting l.classes l.pairs l.text l.d l.n l.w l.count l.i
