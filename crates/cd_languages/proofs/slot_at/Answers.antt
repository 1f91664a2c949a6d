-- The slots follow the two words, four bytes each.
-- Assumes nothing.
use Rattle.cd_languages.proofs.Laws.Languages.{slot_is}
use Rattle.cd_languages.proofs.slot_at.Goals as goal

pub returns : goal.returns
returns c = slot_is _ _ _ _ c.u32_at.ensures
