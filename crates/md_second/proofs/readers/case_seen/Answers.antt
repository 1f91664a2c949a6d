-- Each field is the definition's, and the counts that grow have room. Assumes nothing.
use Rattle.md_words.specs.ArchaicUpperLower.{letter}
use Rattle.md_second.proofs.readers.case_seen.Goals as goal

pub returns : goal.returns
unfolding letter
returns c =
    simp (c.is_set.ensures, c.pick.ensures.is, c.is_change-change.ensures)
