-- The three case flags, masked, are none of them, or one of the two allowed pairs on a letter: `cases` is this test, tried in all ways.
-- Assumes nothing.
use Rattle.class_records.proofs.Laws.Rules.{cases}
use Rattle.class_records.proofs.flag_rule.cases_good.Goals as goal

pub returns : goal.returns
returns c = rw c.is_set.ensures (cases _)
