-- Zeros, as the definition has them. Assumes nothing.
use mathlib.Core.Path.{refl}
use Rattle.host.specs.Host.{host_shown, host_counts}
use Rattle.host.proofs.flat.no_counts.Goals as goal

pub returns : goal.returns
unfolding host_counts host_shown
returns c = refl
