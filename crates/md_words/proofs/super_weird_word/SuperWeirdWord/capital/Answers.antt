-- One test of a bit for each flag of the last character. Assumes nothing.
use Rattle.md_words.specs.SuperWeirdWord.{capital}
use Rattle.md_words.proofs.super_weird_word.SuperWeirdWord.capital.Goals as goal

pub returns : goal.returns
unfolding capital
returns c = simp (c.is_set-2.ensures, c.is_set.ensures)
