-- The code is the definition's three conditions in its order.
-- Assumes nothing.
use Rattle.class_records.specs.Inner.InOrder.{span_after}
use Rattle.class_records.proofs.span_after.Goals as goal

pub returns : goal.returns
unfolding span_after
returns c = cc
