-- The definition's two counts, and its test of the cut-off. Assumes nothing.
use Rattle.md_counts.specs.CjkInvalidStop.{counts}
use Rattle.md_counts.proofs.cjk_invalid_stop.CjkInvalidStop.counts.Goals as goal

pub returns : goal.returns
unfolding counts
returns c = c.counts_of.ensures
