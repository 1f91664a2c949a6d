use Rattle.utf8_form.proofs.Loops.Counting.{Counting}
use Rattle.utf8_form.proofs.check.needed.Given as goal

abbrev pub invariant-loop-c : goal.invariant-loop-c
invariant-loop-c l = Counting l.text l.n l.c-index
