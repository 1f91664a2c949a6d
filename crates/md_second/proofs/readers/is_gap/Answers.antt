-- One test of a bit for each flag that the definition names. Assumes nothing.
use Rattle.md_words.specs.SuperWeirdWord.{closes}
use Rattle.md_second.specs.Inner.Reading.{is_gap}
use Rattle.md_second.proofs.readers.is_gap.Goals as goal

pub returns : goal.returns
unfolding is_gap closes
returns c =
    simp (c.is_set-4.ensures, c.is_set-3.ensures, c.is_set-2.ensures, c.is_set.ensures)
