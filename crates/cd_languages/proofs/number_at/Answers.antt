-- The number is the first word of a record.
-- Assumes nothing.
use Rattle.cd_languages.proofs.Laws.Languages.{number_is}
use Rattle.cd_languages.proofs.number_at.Goals as goal

pub returns : goal.returns
returns c = number_is _ _ _ c.u32_at.ensures
