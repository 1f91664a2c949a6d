-- The tests are those of the definition. Assumes nothing.
use mathlib.Core.Path.{refl}
use Rattle.base.specs.Tests.{scalar}
use Rattle.utf8_table.proofs.has_form.Goals as goal

pub returns : goal.returns
unfolding scalar
returns c = refl
