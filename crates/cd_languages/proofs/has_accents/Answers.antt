-- The mark is tested as a flag is.
-- Assumes nothing.
use Rattle.cd_languages.specs.Languages.{has_accents}
use Rattle.cd_languages.proofs.has_accents.Goals as goal

pub returns : goal.returns
unfolding has_accents
returns c = cc
