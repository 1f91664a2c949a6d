-- By whether there is a predecessor. Assumes nothing.
use Rattle.class_compact_meaning.proofs.Laws.Own.{early_first, early_later}
use Rattle.class_compact.proofs.fault.is_early.Goals as goal

pub returns-then-k-eq0 : goal.returns-then-k-eq0
returns-then-k-eq0 c = early_first _ _ c.if-k-eq0.true

pub returns : goal.returns
returns c = early_later _ _ _ _ c.if-k-eq0.false c.requires c.first_use.ensures.is
