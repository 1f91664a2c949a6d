-- The walk has passed only entries that are not bad, and each has left its mark (`Marking`). Assumes nothing.
use mathlib.Core.Path.{sym, ◌∙◌}
use native.Mathlib.Omega.{arith}
use Rattle.page.proofs.Loops.Marking.{marking_start, marking_new, marking_hit, marking_more, marking_end}
use Rattle.page.proofs.check.first_bad.Goals as goal

pub loop-i-init : goal.loop-i-init
loop-i-init c = marking_start _

pub is_bad-requires : goal.is_bad-requires
is_bad-requires c =
    (omega (arith, c.requires), marking_new c.loop-i.invariant c.requires _ c.mark_of-mark.ensures.0)

pub returns-then-is_bad : goal.returns-then-is_bad
returns-then-is_bad c =
    marking_hit c.loop-i.invariant (omega (arith, c.requires)) (sym c.is_bad.ensures ∙ c.if-is_bad.true)

pub loop-i-preserved : goal.loop-i-preserved
loop-i-preserved c =
    let mark = c.mark_of-mark in
    marking_more c.loop-i.invariant (omega (arith, c.requires)) (sym c.is_bad.ensures ∙ c.if-is_bad.false) _ mark.ensures.0 mark.ensures.1

pub returns : goal.returns
returns c = marking_end c.loop-i.invariant (omega (arith, c.requires))
