-- Each count goes up as the definition says. Assumes nothing.
use Rattle.md_counts.specs.Unprintable.{feed}
use Rattle.md_counts.proofs.unprintable.Unprintable.feed.Goals as goal

pub returns : goal.returns
unfolding feed
returns c = simp (c.one.ensures.is, c.is_set.ensures)
