-- One case of the answer each. Assumes nothing.
use Rattle.ring_meaning.specs.Calls.{values}
use Rattle.host.specs.Host.{host_ring}
use Rattle.host.proofs.flat.HostRingFromResultKeptRefusal.from.Goals as goal

pub returns-in-Err : goal.returns-in-Err
unfolding host_ring values
returns-in-Err c = rw (c.in-Err.is, c.number.ensures)

pub returns-in-Ok : goal.returns-in-Ok
unfolding host_ring values
returns-in-Ok c = rw c.in-Ok.is
