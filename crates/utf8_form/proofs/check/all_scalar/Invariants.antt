use Rattle.utf8_form.proofs.Loops.Checking.{Checking}
use Rattle.utf8_form.proofs.check.all_scalar.Given as goal

abbrev pub invariant-loop-c : goal.invariant-loop-c
invariant-loop-c l = Checking l.text l.good l.c-index
