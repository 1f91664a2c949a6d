-- The case in which nothing is refused. Assumes nothing.
use Rattle.class_compact_meaning.specs.Calls.{packed_unless}
use mathlib.Core.Path.{refl}
use Rattle.class_compact.proofs.packing_done.Goals as goal

pub returns : goal.returns
unfolding packed_unless
returns c = refl
