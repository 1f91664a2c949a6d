-- One test of a bit for each flag that the definition names. Assumes nothing.
use Rattle.md_words.specs.ArchaicUpperLower.{changes}
use Rattle.md_second.proofs.readers.is_change.Goals as goal

pub returns : goal.returns
unfolding changes
returns c =
    simp (c.is_set-4.ensures, c.is_set-3.ensures, c.is_set-2.ensures, c.is_set.ensures)
