-- The places in a row, none before the first, are the definition's list. Assumes nothing.
use mathlib.Core.Path.{refl}
use Rattle.md_growth.specs.Text.{growth_of}
use Rattle.md_reason.proofs.growing.growth_of.Goals as goal

pub returns : goal.returns
unfolding growth_of
returns c = refl
