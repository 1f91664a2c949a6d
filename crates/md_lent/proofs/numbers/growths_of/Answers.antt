-- The definition's record. Assumes nothing.
use mathlib.Core.Path.{refl}
use Rattle.md_lent_meaning.specs.Lent.{growths_lent}
use Rattle.md_lent.proofs.numbers.growths_of.Goals as goal

pub returns : goal.returns
unfolding growths_lent
returns c = refl
