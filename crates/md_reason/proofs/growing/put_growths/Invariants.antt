use Rattle.md_reason.proofs.Loops.Growing.{Filling}
use Rattle.md_reason.proofs.growing.put_growths.Given as goal

abbrev pub invariant-loop-i : goal.invariant-loop-i
invariant-loop-i l = Filling l.classes l.pairs l.text l.d l.n l.initial.out l.out l.w l.k l.i
