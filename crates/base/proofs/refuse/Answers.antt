-- The refusal that the definition spells out. Assumes nothing.
use mathlib.Core.Path.{refl}
use Rattle.base.specs.Causes.{refused_at}
use Rattle.base.proofs.refuse.Goals as goal

pub returns : goal.returns
unfolding refused_at
returns g c = refl
