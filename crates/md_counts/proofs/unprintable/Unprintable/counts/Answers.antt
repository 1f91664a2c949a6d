-- The definition's two counts; no cut-off applies. Assumes nothing.
use Rattle.md_counts.specs.Unprintable.{counts}
use borrow.Author.Rules.{rules}
use Rattle.md_counts.proofs.unprintable.Unprintable.counts.Goals as goal

pub overflow_mul-share : goal.overflow_mul-share
unfolding counts
overflow_mul-share c = search rules

pub returns : goal.returns
unfolding counts
returns c = c.counts_of.ensures
