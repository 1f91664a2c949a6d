use Rattle.cd_merge.proofs.Loops.Finding.{Finding}
use Rattle.cd_merge.proofs.means.is_first.Given as goal

abbrev pub invariant-loop-k : goal.invariant-loop-k
invariant-loop-k l = Finding l.list l.i l.k
