-- The additions of the definition, in its order. Assumes nothing.
use mathlib.Core.Path.{refl}
use Rattle.ratio.specs.Eight.{sum}
use Rattle.ratio.proofs.rounding.sum.Goals as goal

pub returns : goal.returns
unfolding sum
returns c = refl
