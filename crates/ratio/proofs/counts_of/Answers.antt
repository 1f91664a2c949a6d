-- The record of the definition. Assumes nothing.
use mathlib.Core.Path.{refl}
use Rattle.ratio.proofs.counts_of.Goals as goal

pub returns : goal.returns
returns c = refl
