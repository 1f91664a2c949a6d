-- The case in which nothing is refused. Assumes nothing.
use mathlib.Core.Path.{refl}
use Rattle.ring_meaning.specs.Calls.{kept_unless}
use Rattle.ring.proofs.ring_kept.Goals as goal

pub returns : goal.returns
unfolding kept_unless
returns c = refl
