-- Eight noughts. Assumes nothing.
use mathlib.Core.Path.{refl}
use Rattle.md_growth.specs.Growth.{no_growths}
use Rattle.md_growth.proofs.no_growths.Goals as goal

pub returns : goal.returns
unfolding no_growths
returns c = refl
