-- The definition's two counts; no cut-off applies. Assumes nothing.
use Rattle.md_neighbours.specs.SuspiciousDuplicateAccent.{counts}
use borrow.Author.Rules.{rules}
use Rattle.md_neighbours.proofs.suspicious_duplicate_accent.SuspiciousDuplicateAccent.counts.Goals as goal

pub overflow_mul-share : goal.overflow_mul-share
unfolding counts
overflow_mul-share c = search rules

pub returns : goal.returns
unfolding counts
returns c = c.counts_of.ensures
