-- One test of a bit for each flag that the definition names. Assumes nothing.
use Rattle.md_words.specs.SuperWeirdWord.{counted}
use Rattle.md_words.proofs.super_weird_word.counted.Goals as goal

pub returns : goal.returns
unfolding counted
returns c = simp (c.is_set-3.ensures, c.is_set-2.ensures, c.is_set.ensures)
