use Rattle.page.proofs.Loops.Copying.{Copying}
use Rattle.page.proofs.inverse.bytes_into.Given as goal

abbrev pub invariant-loop-i : goal.invariant-loop-i
invariant-loop-i l = Copying l.inverse l.text l.initial.out l.out l.i
