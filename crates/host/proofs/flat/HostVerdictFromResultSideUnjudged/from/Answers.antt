-- One case of the verdict each; a text's number is its discriminant. Assumes nothing.
use Rattle.md_chooser_meaning.specs.Choose.{values, side_number}
use Rattle.host.specs.Host.{host_verdict}
use Rattle.host.proofs.Laws.Host.{numbered}
use Rattle.host.proofs.flat.HostVerdictFromResultSideUnjudged.from.Goals as goal

pub returns-in-First : goal.returns-in-First
unfolding host_verdict values side_number
returns-in-First c = rw (c.in-Err.is, c.in-First.is, c.number.ensures)

pub returns-in-Second : goal.returns-in-Second
unfolding host_verdict values side_number
returns-in-Second c = rw (c.in-Err.is, c.in-Second.is, c.number-in-Second.ensures)

pub returns-in-Ok : goal.returns-in-Ok
unfolding host_verdict values
returns-in-Ok c = rw (c.in-Ok.is, numbered c.in-Ok.side)
