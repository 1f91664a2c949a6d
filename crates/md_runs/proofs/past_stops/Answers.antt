-- Each branch is one of the law's two. Assumes nothing.
use Rattle.md_runs.proofs.Laws.Runs.{low_past, low_first}
use Rattle.md_runs.proofs.past_stops.Goals as goal

pub returns-then-first-p : goal.returns-then-first-p
returns-then-first-p c = low_past _ _ c.if-first-p.true

pub returns : goal.returns
returns c = low_first _ _ c.if-first-p.false
