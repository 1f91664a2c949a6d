-- Each count goes up as the definition says. Assumes nothing.
use Rattle.md_counts.specs.CjkInvalidStop.{feed}
use Rattle.md_counts.proofs.cjk_invalid_stop.CjkInvalidStop.feed.Goals as goal

pub returns : goal.returns
unfolding feed
returns c =
    simp (c.one-2.ensures.is, c.is_set.ensures, c.one.ensures.is, c.wrong_stop-wrong.ensures)
