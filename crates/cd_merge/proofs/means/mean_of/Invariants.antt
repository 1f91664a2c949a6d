use Rattle.cd_merge.proofs.Loops.Summing.{Summing}
use Rattle.cd_merge.proofs.means.mean_of.Given as goal

abbrev pub invariant-loop-i : goal.invariant-loop-i
invariant-loop-i l = Summing l.list l.language l.sum l.count l.i
