-- What is lent are the first places of arrays that have as many. Assumes nothing.
use native.Mathlib.Omega.{arith}
use lib.ListN.{length-take, length-replicate}
use Rattle.replay_page.proofs.writing.Goals as goal

pub slice_bounds-same_writing-end : goal.slice_bounds-same_writing-end
slice_bounds-same_writing-end c = simp (length-take, length-replicate) (omega arith)

pub slice_bounds-same_writing-end-2 : goal.slice_bounds-same_writing-end-2
slice_bounds-same_writing-end-2 c = simp (length-take, length-replicate) (omega arith)

pub slice_bounds-same_writing-end-3 : goal.slice_bounds-same_writing-end-3
slice_bounds-same_writing-end-3 c = simp (length-take, length-replicate) (omega arith)
