-- Each field is the definition's, and the counts that grow have room. Assumes nothing.
use Rattle.md_neighbours.specs.Inner.SuspiciousRange.{feed_run}
use Rattle.md_neighbours.proofs.suspicious_range.SuspiciousRange.feed_run.Goals as goal

pub returns : goal.returns
unfolding feed_run
returns c = simp (c.pick.ensures.is, c.one.ensures.is)
