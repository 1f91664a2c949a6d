-- The parts lent are as long as was cut, and mess_ratio's ratios and sum are no NaN. Assumes nothing.
use native.Mathlib.Omega.{arith}
use lib.ListN.{length-take}
use Rattle.md_meaning.proofs.Laws.Plain.{ratio_plain}
use Rattle.replay_md.proofs.same.Goals as goal

pub slice_bounds-mess_ratio-end : goal.slice_bounds-mess_ratio-end
slice_bounds-mess_ratio-end c = simp length-take (omega (arith, c.least-c.ensures))

pub slice_bounds-mess_ratio-end-2 : goal.slice_bounds-mess_ratio-end-2
slice_bounds-mess_ratio-end-2 c = simp length-take (omega (arith, c.least-p.ensures))

pub same_answer-requires : goal.same_answer-requires
same_answer-requires c = rw c.mess_ratio.ensures (ratio_plain _ _ _ _)
