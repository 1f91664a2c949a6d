-- The mark is the truth's number. Assumes nothing.
use Rattle.host.specs.Host.{host_shown}
use Rattle.host.proofs.flat.HostShownFromShown.from.Goals as goal

pub returns : goal.returns
unfolding host_shown
returns c = rw c.one.ensures.is
