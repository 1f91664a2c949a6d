-- The two products fit, since the counts have room. Assumes nothing.
use Rattle.md_words.specs.SuperWeirdWord.{accented}
use mathlib.Core.Path.{refl}
use Rattle.md_words.proofs.super_weird_word.SuperWeirdWord.accented.Goals as goal

pub returns : goal.returns
unfolding accented
returns c = refl
