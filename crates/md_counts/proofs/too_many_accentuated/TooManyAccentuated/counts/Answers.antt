-- The definition's two counts, and its two tests. Assumes nothing.
use Rattle.md_counts.specs.TooManyAccentuated.{counts}
use borrow.Author.Rules.{rules}
use Rattle.md_counts.proofs.too_many_accentuated.TooManyAccentuated.counts.Goals as goal

pub at_least-requires : goal.at_least-requires
unfolding counts
at_least-requires c = search rules

pub returns : goal.returns
unfolding counts
returns c = simp (c.counts_of.ensures, c.at_least.ensures)
