-- The flat form of the one call's answer. Assumes nothing.
use Rattle.host.specs.Running.{closed_host}
use Rattle.host.proofs.drasumira_close.Goals as goal

pub returns : goal.returns
unfolding closed_host
returns c = rw (c.into.ensures, c.close_lent.ensures)
