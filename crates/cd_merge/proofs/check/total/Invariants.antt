use Rattle.cd_merge.proofs.Loops.Lengths.{Adding}
use Rattle.cd_merge.proofs.check.total.Given as goal

abbrev pub invariant-loop-length : goal.invariant-loop-length
invariant-loop-length l = Adding l.lengths l.sum l.length-index
