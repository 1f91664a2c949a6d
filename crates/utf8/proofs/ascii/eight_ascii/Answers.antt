-- The tests joined are those of `ascii_on` at the byte and the seven after it. Assumes nothing.
use mathlib.Core.Path.{refl}
use Rattle.utf8_meaning.specs.Inner.Ascii.{ascii_on}
use Rattle.utf8.proofs.ascii.eight_ascii.Goals as goal

pub returns : goal.returns
unfolding ascii_on
returns c = refl
