-- Past the stop only the first unclassed character matters. Assumes nothing.
use mathlib.Core.Path.{◌∙◌}
use Rattle.md.proofs.Loops.Going.{stopped_missing, stopped_scored}
use Rattle.md_meaning.proofs.Laws.Scan.{answered_state}
use Rattle.md.proofs.scan.stopped_after.Goals as goal

pub returns-then-bad-text : goal.returns-then-bad-text
returns-then-bad-text c = c.refuse.ensures ∙ stopped_missing _ _ _ _ _ c.unclassed_rest-bad.ensures c.if-bad-text.true

pub returns : goal.returns
returns c =
    c.answered.ensures
    ∙ answered_state _ _ _ _ c.counts.ensures
    ∙ stopped_scored _ _ _ _ _ c.unclassed_rest-bad.ensures c.if-bad-text.false
