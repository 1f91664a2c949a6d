-- The mark is tested as a flag is.
-- Assumes nothing.
use Rattle.cd_languages.specs.Languages.{pure_latin}
use Rattle.cd_languages.proofs.pure_latin.Goals as goal

pub returns : goal.returns
unfolding pure_latin
returns c = cc
