-- The lesser of two firsts is the first of either. Assumes nothing.
use Rattle.class_compact_meaning.proofs.Laws.Records.{lacking_first, bad_first}
use Rattle.class_compact.proofs.fault.first_bad_record.Goals as goal

pub returns-then-missing-bad : goal.returns-then-missing-bad
returns-then-missing-bad c =
    lacking_first _ _ _ _ _ c.requires c.first_unlettered-missing.ensures c.first_bad-bad.ensures c.if-missing-bad.true

pub returns-else-missing-bad : goal.returns-else-missing-bad
returns-else-missing-bad c =
    bad_first _ _ _ _ _ c.requires c.first_unlettered-missing.ensures c.first_bad-bad.ensures c.if-missing-bad.false
