-- The part of the work area that is lent is as long as was cut. Assumes nothing.
use native.Mathlib.Omega.{arith}
use lib.ListN.{length-take}
use Rattle.replay_coherence.proofs.same_ranking.Goals as goal

pub slice_bounds-coherence_ratio-end-2 : goal.slice_bounds-coherence_ratio-end-2
slice_bounds-coherence_ratio-end-2 c = simp length-take (omega (arith, c.least-n.ensures))
