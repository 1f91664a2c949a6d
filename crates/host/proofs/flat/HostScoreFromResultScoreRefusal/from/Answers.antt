-- One case of the answer each. Assumes nothing.
use Rattle.md_meaning.specs.Values.{values}
use Rattle.host.specs.Host.{flat_score, host_score}
use Rattle.host.proofs.flat.HostScoreFromResultScoreRefusal.from.Goals as goal

pub returns-in-Err : goal.returns-in-Err
unfolding host_score flat_score values
returns-in-Err c = rw (c.in-Err.is, c.number.ensures, c.no_ratios.ensures, c.no_counts.ensures)

pub returns-in-Ok : goal.returns-in-Ok
unfolding host_score flat_score values
returns-in-Ok c = rw (c.in-Ok.is, c.one.ensures.is, c.into.ensures)
