-- Each of the six runs is its definition's, and two detectors stay. Assumes nothing.
use Rattle.md_eight.specs.Inner.Runs.{uncased_run}
use Rattle.md_eight.proofs.Detectors.uncased_run.Goals as goal

pub returns : goal.returns
unfolding uncased_run
returns c =
    simp (c.feed_run-stops.ensures, c.feed_run-accents.ensures, c.feed_run.ensures, c.feed_run-2.ensures, c.feed_run-3.ensures, c.feed_uncased.ensures)
