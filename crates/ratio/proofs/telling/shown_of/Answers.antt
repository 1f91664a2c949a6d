-- The mark is the definition's test. Assumes nothing.
use mathlib.Core.Path.{refl}
use Rattle.ratio.specs.Shown.{shown}
use Rattle.ratio.proofs.telling.shown_of.Goals as goal

pub returns : goal.returns
unfolding shown
returns c = refl
