-- The definition's record. Assumes nothing.
use mathlib.Core.Path.{refl}
use Rattle.md_lent_meaning.specs.Lent.{eight_lent}
use Rattle.md_lent.proofs.numbers.eight_of.Goals as goal

pub returns : goal.returns
unfolding eight_lent
returns c = refl
