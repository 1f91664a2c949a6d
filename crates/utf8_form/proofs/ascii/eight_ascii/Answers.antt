-- The tests joined are those of `ascii_on` at the code point and the seven after it. Assumes nothing.
use mathlib.Core.Path.{refl}
use Rattle.utf8_meaning.specs.Inner.Ascii.{ascii_on}
use Rattle.utf8_form.proofs.ascii.eight_ascii.Goals as goal

pub returns : goal.returns
unfolding ascii_on
returns c = refl
