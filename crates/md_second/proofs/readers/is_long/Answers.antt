-- The definition's tests, on whole numbers. Assumes nothing.
use Rattle.md_words.specs.SuperWeirdWord.{long, camel}
use mathlib.Core.Path.{refl}
use Rattle.md_second.proofs.readers.is_long.Goals as goal

pub returns : goal.returns
unfolding long camel
returns c = refl
