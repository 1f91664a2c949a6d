-- The parts lent are as long as was cut. Assumes nothing.
use native.Mathlib.Omega.{arith}
use lib.ListN.{length-take}
use Rattle.replay_chooser.proofs.same_case.Goals as goal

pub slice_bounds-same_cut-end : goal.slice_bounds-same_cut-end
slice_bounds-same_cut-end c = simp length-take (omega arith)

pub slice_bounds-same_cut-end-2 : goal.slice_bounds-same_cut-end-2
slice_bounds-same_cut-end-2 c = simp length-take (omega arith)

pub slice_bounds-same_cut-end-3 : goal.slice_bounds-same_cut-end-3
slice_bounds-same_cut-end-3 c = simp length-take (omega arith)

pub same_cut-requires : goal.same_cut-requires
same_cut-requires c = simp length-take (omega arith)
