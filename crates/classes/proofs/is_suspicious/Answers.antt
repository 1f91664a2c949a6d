-- The byte shifted by the bit's place has that bit lowest.
-- Assumes nothing.
use mathlib.Core.Path.{refl}
use Rattle.classes.specs.Pairs.{suspicious, bit_of}
use Rattle.base.specs.Flags.{has}
use Rattle.classes.proofs.is_suspicious.Goals as goal

pub returns : goal.returns
unfolding suspicious bit_of has
returns c = refl
