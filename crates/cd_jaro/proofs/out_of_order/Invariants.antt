use Rattle.cd_jaro.proofs.Loops.OutOfOrder.{Counting}
use Rattle.cd_jaro.proofs.out_of_order.Given as goal

abbrev pub invariant-loop-j : goal.invariant-loop-j
invariant-loop-j l = Counting l.language l.taken l.letters l.out l.k l.j
