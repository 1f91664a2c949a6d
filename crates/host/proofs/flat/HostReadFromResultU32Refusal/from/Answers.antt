-- One case of the answer each. Assumes nothing.
use Rattle.base.specs.Counted.{values}
use Rattle.host.specs.Host.{host_counted}
use Rattle.host.proofs.flat.HostReadFromResultU32Refusal.from.Goals as goal

pub returns-in-Err : goal.returns-in-Err
unfolding host_counted values
returns-in-Err c = rw (c.in-Err.is, c.number.ensures)

pub returns-in-Ok : goal.returns-in-Ok
unfolding host_counted values
returns-in-Ok c = rw c.in-Ok.is
