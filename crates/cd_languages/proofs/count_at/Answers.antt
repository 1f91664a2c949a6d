-- The letter count is the low half of the second word.
-- Assumes nothing.
use Rattle.cd_languages.proofs.Laws.Languages.{count_is}
use Rattle.cd_languages.proofs.count_at.Goals as goal

pub returns : goal.returns
returns c = count_is _ _ _ c.u32_at.ensures
