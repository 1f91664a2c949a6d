-- One test of a bit for each flag that the definition names. Assumes nothing.
use Rattle.md_words.specs.ArchaicUpperLower.{separates}
use Rattle.md_words.proofs.archaic_upper_lower.ArchaicUpperLower.separates.Goals as goal

pub returns : goal.returns
unfolding separates
returns c = simp (c.is_set-2.ensures, c.is_set.ensures)
