-- The walk has passed only good records and knows where they end; so what it asks of the next is that record's goodness.
-- Assumes nothing.
use mathlib.Core.Bool.{not}
use mathlib.Core.Path.{ap}
use Rattle.class_records.proofs.Loops.InOrder.{walked_start, walked_bad, walked_more, walked_end}
use Rattle.class_records.proofs.first_bad.Goals as goal

pub loop-i-init : goal.loop-i-init
loop-i-init c = walked_start _

pub returns-then-not-span_after-r : goal.returns-then-not-span_after-r
returns-then-not-span_after-r c =
    walked_bad _ _ _ c.loop-i.invariant c.loop-i-test.true
    (ap not (rw (c.fields_good.ensures, c.span_after.ensures, c.record_at-r.ensures) at c.if-not-span_after-r.true))

pub loop-i-preserved : goal.loop-i-preserved
loop-i-preserved c =
    rw c.record_at-r.ensures (walked_more _ _ _ c.loop-i.invariant c.loop-i-test.true
    (ap not (rw (c.fields_good.ensures, c.span_after.ensures, c.record_at-r.ensures) at c.if-not-span_after-r.false)))

pub returns : goal.returns
returns c = walked_end _ _ _ c.loop-i.invariant c.loop-i-test.false
