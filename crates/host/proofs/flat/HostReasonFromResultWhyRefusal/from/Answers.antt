-- One case of the answer each. Assumes nothing.
use Rattle.md_reason_meaning.specs.Reason.{values}
use Rattle.host.specs.Why.{host_reason}
use Rattle.host.proofs.flat.HostReasonFromResultWhyRefusal.from.Goals as goal

pub returns-in-Err : goal.returns-in-Err
unfolding host_reason values
returns-in-Err c = rw (c.in-Err.is, c.number.ensures)

pub returns-in-Ok : goal.returns-in-Ok
unfolding host_reason values
returns-in-Ok c = rw (c.in-Ok.is, c.flat_detector-detector.ensures)
