-- One case of the answer each. Assumes nothing.
use Rattle.class_compact_meaning.specs.Calls.{values}
use Rattle.host.specs.Compact.{host_packed}
use Rattle.host.proofs.flat.HostPackedFromResultPackedRefusal.from.Goals as goal

pub returns-in-Err : goal.returns-in-Err
unfolding host_packed values
returns-in-Err c = rw (c.in-Err.is, c.number.ensures)

pub returns-in-Ok : goal.returns-in-Ok
unfolding host_packed values
returns-in-Ok c = rw c.in-Ok.is
