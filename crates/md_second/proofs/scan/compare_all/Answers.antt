-- The invariant: the stop is still to be looked for from i on. Assumes nothing.
use mathlib.Core.Path.{◌∙◌}
use Rattle.md_second.proofs.Loops.Comparing.{comparing_start, comparing_more, comparing_stop, comparing_end}
use Rattle.md_second.proofs.scan.compare_all.Goals as goal

pub loop-i-init : goal.loop-i-init
loop-i-init c = comparing_start _ _ _ _ _ _ _

pub returns-then-stops_after : goal.returns-then-stops_after
returns-then-stops_after c =
    c.answer_after.ensures ∙ comparing_stop _ _ _ _ _ _ _ c.loop-i.invariant c.loop-i-test.true c.stops_after.ensures
    c.if-stops_after.true

pub loop-i-preserved : goal.loop-i-preserved
loop-i-preserved c = comparing_more _ _ _ _ _ _ _ c.loop-i.invariant c.loop-i-test.true c.stops_after.ensures c.if-stops_after.false

pub returns : goal.returns
returns c = c.answer_after-2.ensures ∙ comparing_end _ _ _ _ _ _ _ c.loop-i.invariant c.loop-i-test.false
