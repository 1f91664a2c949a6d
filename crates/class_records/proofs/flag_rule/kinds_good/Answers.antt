-- Adding all bits below takes 1 from the masked kinds, so that the two have a bit in common exactly where two kinds are set: `kinds`.
-- Assumes nothing.
use Rattle.class_records.proofs.Laws.Rules.{part_fits, kinds}
use lib.Dec.{lit<}
use Rattle.class_records.proofs.flag_rule.kinds_good.Goals as goal

pub overflow_add-result : goal.overflow_add-result
overflow_add-result c = record { fits = part_fits 0x802003 0xFFFFFF _ _ (lit< tt) }

pub returns : goal.returns
returns c = kinds _
