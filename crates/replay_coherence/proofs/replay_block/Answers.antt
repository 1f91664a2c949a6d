-- Both tables lie within the block, and the parts lent are as long as was cut. Assumes nothing.
use native.Mathlib.Omega.{arith}
use lib.ListN.{length-take}
use Rattle.replay_coherence.proofs.replay_block.Goals as goal

pub slice_bounds-replay_questions-end-2 : goal.slice_bounds-replay_questions-end-2
slice_bounds-replay_questions-end-2 c =
    simp length-take (omega (arith, c.least-p.ensures, c.flip_bits.ensures))
