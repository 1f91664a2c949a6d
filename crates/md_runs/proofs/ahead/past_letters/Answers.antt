-- One by one where fewer are left; else as far as those together reach, and one by one behind them. Assumes nothing.
use Rattle.md_runs.proofs.Laws.Ahead.{past_cut, past_joined}
use Rattle.md_runs.proofs.ahead.past_letters.Goals as goal

pub returns-then-end-next : goal.returns-then-end-next
returns-then-end-next c =
    let asked = c.requires in
    past_cut _ _ _ _ _ _ _ c.past_ahead-next.ensures asked.0 c.if-end-next.true

pub returns : goal.returns
returns c = past_joined _ _ _ _ _ _ _ c.past_ahead-next.ensures _ c.past_within-2.ensures
