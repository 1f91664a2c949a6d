-- Each of the eight. Assumes nothing.
use Rattle.host.specs.Host.{host_counts}
use Rattle.host.proofs.flat.HostCountsFromEightShown.from.Goals as goal

pub returns : goal.returns
unfolding host_counts
returns c =
    rw (c.into.ensures, c.into-2.ensures, c.into-3.ensures, c.into-4.ensures, c.into-5.ensures, c.into-6.ensures, c.into-7.ensures, c.into-8.ensures)
