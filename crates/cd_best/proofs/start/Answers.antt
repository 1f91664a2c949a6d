-- The arrays are the definition's.
-- Assumes nothing.
use mathlib.Core.Path.{refl}
use Rattle.cd_best.specs.Inner.Standing.{start}
use Rattle.cd_best.proofs.start.Goals as goal

pub returns : goal.returns
unfolding start
returns c = refl
