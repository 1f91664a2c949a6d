-- The count goes up as the definition says, and has room. Assumes nothing.
use Rattle.md_counts.specs.Inner.CjkInvalidStop.{feed_run}
use Rattle.md_counts.proofs.cjk_invalid_stop.CjkInvalidStop.feed_run.Goals as goal

pub returns : goal.returns
unfolding feed_run
returns c = simp (c.pick.ensures.is, c.is_set.ensures)
