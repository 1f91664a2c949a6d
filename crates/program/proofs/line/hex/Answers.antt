-- Each element is the digit of its weight. Assumes nothing.
use Rattle.program.specs.Numerals.{hex}
use Rattle.program.proofs.line.hex.Goals as goal

pub returns : goal.returns
unfolding hex
returns c = cc
