-- Each of the eight runs is its definition's. Assumes nothing.
-- behind seven calls a search does not come to it
use Rattle.md_eight.specs.Inner.Runs.{cased_run}
use Rattle.md_eight.proofs.Detectors.cased_run.Goals as goal

pub feed_cased-requires : goal.feed_cased-requires
feed_cased-requires c = (c.requires.0.archaic, c.requires.2)

pub returns : goal.returns
unfolding cased_run
returns c =
    simp (c.feed_run-stops.ensures, c.feed_run-accents.ensures, c.feed_run.ensures, c.feed_run-2.ensures, c.feed_run-3.ensures, c.feed_run-4.ensures, c.feed_run-5.ensures, c.feed_cased.ensures)
