-- The same tests. Assumes nothing.
use Rattle.ring_meaning.specs.Ring.{wrong_ring}
use Rattle.ring.proofs.size.wrong_ring.Goals as goal

pub returns : goal.returns
unfolding wrong_ring
returns c = rw c.wrong_size.ensures
