-- One test of a bit for each flag that the definition names. Assumes nothing.
use Rattle.md_words.specs.ArchaicUpperLower.{counted}
use Rattle.md_words.proofs.archaic_upper_lower.ArchaicUpperLower.counted.Goals as goal

pub returns : goal.returns
unfolding counted
returns c = simp c.is_set.ensures
