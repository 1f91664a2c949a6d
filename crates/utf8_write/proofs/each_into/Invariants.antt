use Rattle.utf8_write.proofs.Loops.Writing.{Writing}
use Rattle.utf8_write.proofs.each_into.Given as goal

abbrev pub invariant-loop-c : goal.invariant-loop-c
invariant-loop-c l = Writing l.text l.initial.out l.at l.out l.c-index l.to
