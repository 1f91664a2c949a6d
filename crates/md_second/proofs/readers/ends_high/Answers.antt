-- The definition's three tests. Assumes nothing.
use Rattle.md_words.specs.SuperWeirdWord.{capital}
use Rattle.md_second.proofs.readers.ends_high.Goals as goal

pub returns : goal.returns
unfolding capital
returns c = simp (c.is_set-2.ensures, c.is_set.ensures)
