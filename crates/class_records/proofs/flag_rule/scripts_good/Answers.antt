-- As kinds_good, of the six scripts: `scripts`.
-- Assumes nothing.
use Rattle.class_records.proofs.Laws.Rules.{part_fits, scripts}
use lib.Dec.{lit<}
use Rattle.class_records.proofs.flag_rule.scripts_good.Goals as goal

pub overflow_add-result : goal.overflow_add-result
overflow_add-result c = record { fits = part_fits 0xF9000 0xFFFFF _ _ (lit< tt) }

pub returns : goal.returns
returns c = scripts _
