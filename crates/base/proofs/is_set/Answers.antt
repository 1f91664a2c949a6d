-- The quotient by a power of two, modulo 2, is the definition of `has`. Assumes nothing.
use mathlib.Core.Path.{refl}
use Rattle.base.specs.Flags.{has}
use Rattle.base.proofs.is_set.Goals as goal

pub returns : goal.returns
unfolding has
returns c = refl
