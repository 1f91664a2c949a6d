-- The code is the definition.
-- Assumes nothing.
use mathlib.Core.Path.{refl}
use Rattle.base.specs.Tests.{scalar}
use Rattle.cd_languages.proofs.is_scalar.Goals as goal

pub returns : goal.returns
unfolding scalar
returns c = refl
