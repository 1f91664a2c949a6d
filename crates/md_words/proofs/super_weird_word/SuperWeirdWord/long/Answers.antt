-- The two products fit, since the counts have room; camel case is written out. Assumes nothing.
use Rattle.md_words.specs.SuperWeirdWord.{long, camel}
use mathlib.Core.Path.{refl}
use Rattle.md_words.proofs.super_weird_word.SuperWeirdWord.long.Goals as goal

pub returns : goal.returns
unfolding long camel
returns c = refl
