-- The same tests. Assumes nothing.
use mathlib.Core.Path.{refl}
use Rattle.ring_meaning.specs.Ring.{wrong_size}
use Rattle.ring.proofs.size.wrong_size.Goals as goal

pub returns : goal.returns
unfolding wrong_size
returns c = refl
