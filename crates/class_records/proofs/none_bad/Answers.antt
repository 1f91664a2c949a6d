-- `good` says whether the records passed are in order, and `end` where they end; in order up to the last code point is good for all of them.
-- Assumes nothing.
use Rattle.class_records.proofs.Loops.InOrder.{reduced_start, reduced_more, reduced_end}
use Rattle.class_records.proofs.none_bad.Goals as goal

pub loop-i-init : goal.loop-i-init
loop-i-init c = reduced_start _

pub loop-i-preserved : goal.loop-i-preserved
loop-i-preserved c =
    rw (c.fields_good.ensures, c.span_after.ensures, c.record_at-r.ensures) (reduced_more _ _ _ _ c.loop-i.invariant c.loop-i-test.true)

pub returns : goal.returns
returns c = reduced_end _ _ _ _ c.loop-i.invariant c.loop-i-test.false
