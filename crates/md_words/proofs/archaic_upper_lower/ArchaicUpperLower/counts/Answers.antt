-- The definition's two counts; no cut-off applies. Assumes nothing.
use Rattle.md_words.specs.ArchaicUpperLower.{counts}
use Rattle.md_words.proofs.archaic_upper_lower.ArchaicUpperLower.counts.Goals as goal

pub returns : goal.returns
unfolding counts
returns c = c.counts_of.ensures
