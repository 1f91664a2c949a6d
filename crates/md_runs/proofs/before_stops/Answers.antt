-- Each branch is one of the law's two. Assumes nothing.
use Rattle.md_runs.proofs.Laws.Runs.{high_before, high_last}
use Rattle.md_runs.proofs.before_stops.Goals as goal

pub returns-then-last-p : goal.returns-then-last-p
returns-then-last-p c = high_before _ _ c.if-last-p.true

pub returns : goal.returns
returns c = high_last _ _ c.if-last-p.false
