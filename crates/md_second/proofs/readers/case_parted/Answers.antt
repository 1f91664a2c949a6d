-- Each field is the definition's, and the count that grows has room. Assumes nothing.
use Rattle.md_words.specs.ArchaicUpperLower.{separator, counted}
use Rattle.md_second.proofs.readers.case_parted.Goals as goal

pub returns : goal.returns
unfolding separator counted
returns c =
    simp (c.pick.ensures.is, c.is_set.ensures)
