-- The definition's two tests, on whole numbers. Assumes nothing.
use Rattle.md_words.specs.SuperWeirdWord.{accented}
use mathlib.Core.Path.{refl}
use Rattle.md_second.proofs.readers.is_accented.Goals as goal

pub returns : goal.returns
unfolding accented
returns c = refl
