-- Each field is the definition's, and the count that grows has room. Assumes nothing.
use Rattle.md_words.specs.Inner.ArchaicUpperLower.{in_turn, seen_last}
use Rattle.md_words.proofs.archaic_upper_lower.ArchaicUpperLower.feed_uncased.Goals as goal

pub returns : goal.returns
unfolding in_turn seen_last
returns c =
    simp (c.is_set.ensures, c.pick.ensures.is, c.closed_total.ensures, c.one.ensures.is)
