-- Each of the eight runs is its definition's, at flags that are known. Assumes nothing.
use Rattle.md_eight.specs.Inner.Runs.{cased_run}
use Rattle.md_eight.proofs.Detectors.lower_run.Goals as goal

pub returns : goal.returns
unfolding cased_run
returns c =
    simp (c.feed_run.ensures, c.feed_run-2.ensures, c.feed_run-3.ensures, c.feed_run-4.ensures, c.feed_run-5.ensures, c.feed_run-6.ensures, c.feed_run-7.ensures, c.feed_cased.ensures)
