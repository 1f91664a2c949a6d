-- Each field is the definition's, and the three counts that grow have room. Assumes nothing.
use Rattle.md_words.specs.Inner.ArchaicUpperLower.{feed_cased}
use Rattle.md_words.proofs.archaic_upper_lower.ArchaicUpperLower.feed_cased.Goals as goal

pub returns : goal.returns
unfolding feed_cased
returns c =
    simp (c.pick.ensures.is, c.is_set.ensures, c.changes-changed.ensures)
