-- A record is six words, the fourth of them range and zero.
-- Assumes nothing.
use Rattle.class_records.proofs.Laws.Fields.{record_of_lem}
use Rattle.class_records.proofs.record_at.Goals as goal

pub returns : goal.returns
returns c =
    record_of_lem _ _ _ _ _ _ _ _ c.u32_at.ensures c.u32_at-2.ensures c.u32_at-3.ensures c.u32_at-word.ensures
    c.u32_at-4.ensures c.u32_at-5.ensures
