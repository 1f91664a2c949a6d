-- The repeated zero is the definition's. Assumes nothing.
use mathlib.Core.Path.{refl}
use Rattle.program.specs.Program.{NO_PAIRS}
use Rattle.program.proofs.no_pairs.Goals as goal

pub returns : goal.returns
unfolding NO_PAIRS
returns c = refl
