-- None is a NaN, so each has its bits. Assumes nothing.
use mathlib.Core.Path.{refl}
use Rattle.ratio.specs.Eight.{bits}
use Rattle.ratio.proofs.rounding.bits.Goals as goal

pub returns : goal.returns
unfolding bits
returns c = refl
