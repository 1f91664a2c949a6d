-- Eight times +0.0. Assumes nothing.
use mathlib.Core.Path.{refl}
use Rattle.ratio.proofs.rounding.no_ratios.Goals as goal

pub returns : goal.returns
returns c = refl
