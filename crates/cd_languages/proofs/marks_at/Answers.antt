-- The marks are the high half of the second word.
-- Assumes nothing.
use Rattle.cd_languages.proofs.Laws.Languages.{marks_is}
use Rattle.cd_languages.proofs.marks_at.Goals as goal

pub returns : goal.returns
returns c = marks_is _ _ _ c.u32_at.ensures
