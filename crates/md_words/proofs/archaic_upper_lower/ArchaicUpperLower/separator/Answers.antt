-- Each field is the definition's, and the two counts that grow have room. Assumes nothing.
use Rattle.md_words.specs.ArchaicUpperLower.{separator}
use Rattle.md_words.proofs.archaic_upper_lower.ArchaicUpperLower.separator.Goals as goal

pub returns : goal.returns
unfolding separator
returns c = simp (c.pick.ensures.is, c.counted.ensures)
