-- The state as it is, and the flat form of the answer. Assumes nothing.
use Rattle.host.specs.Running.{host_fed}
use Rattle.host.proofs.flat.HostFedFromLentFed.from.Goals as goal

pub returns : goal.returns
unfolding host_fed
returns c = rw c.into.ensures
