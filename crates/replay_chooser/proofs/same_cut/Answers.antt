-- The two texts are the front and the rest. Assumes nothing.
use native.Mathlib.Omega.{arith}
use lib.ListN.{length-take}
use Rattle.replay_chooser.proofs.same_cut.Goals as goal

pub slice_bounds-same_texts-end : goal.slice_bounds-same_texts-end
slice_bounds-same_texts-end c = simp length-take (omega arith)
