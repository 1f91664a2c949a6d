-- The record found is p's; what it begins and ends with is cut at the wrong stops. Assumes nothing.
use Rattle.std.proofs.Common.{refl}
use Rattle.md_runs.proofs.Laws.Runs.{alike_made}
use Rattle.md_runs.proofs.kin_of.Goals as goal

pub record_at-r-requires : goal.record_at-r-requires
record_at-r-requires c = let asked = c.requires in rw asked.is asked.held

pub returns : goal.returns
returns c =
    let at_pre = c.requires in
    alike_made _ _ _ _ _ _ _ at_pre c.record_at-r.ensures c.past_stops.ensures c.before_stops.ensures refl
