-- Each of the eight steps is its definition's, at a class that is known. Assumes nothing.
use Rattle.md_eight.specs.Detectors.{feed}
use Rattle.md_eight.proofs.Detectors.space.Goals as goal

pub returns : goal.returns
unfolding feed
returns c =
    simp (c.feed-stops.ensures, c.feed-accents.ensures, c.feed.ensures, c.feed-2.ensures, c.feed-3.ensures, c.feed-4.ensures, c.feed-5.ensures, c.feed-6.ensures)
