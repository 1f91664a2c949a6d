-- One case of what was found each. Assumes nothing.
use Rattle.host.specs.Why.{host_class}
use Rattle.host.proofs.flat.HostClassFromOptionClass.from.Goals as goal

pub returns-in-None : goal.returns-in-None
unfolding host_class
returns-in-None c = rw (c.in-None.is, c.number.ensures)

pub returns-in-Some : goal.returns-in-Some
unfolding host_class
returns-in-Some c = rw c.in-Some.is
