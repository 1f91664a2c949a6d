-- The tests joined are those of `no_end_on` at the byte and the seven after it. Assumes nothing.
use mathlib.Core.Path.{refl}
use Rattle.md_lines_meaning.specs.Inner.Lines.{no_end_on}
use Rattle.md_lines.proofs.split.eight_in_line.Goals as goal

pub returns : goal.returns
unfolding no_end_on
returns c = refl
