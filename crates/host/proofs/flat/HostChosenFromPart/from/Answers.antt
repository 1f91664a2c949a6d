-- The flat form of its verdict, with the part's length. Assumes nothing.
use Rattle.host.specs.Chosen.{host_chosen}
use Rattle.host.specs.Host.{host_verdict}
use Rattle.host.proofs.flat.HostChosenFromPart.from.Goals as goal

pub returns : goal.returns
unfolding host_verdict host_chosen
returns c = rw c.from-verdict.ensures
