-- The definition's two counts, and its test of the cut-off. Assumes nothing.
use Rattle.md_counts.specs.TooManySymbolOrPunctuation.{counts}
use borrow.Author.Rules.{rules}
use Rattle.md_counts.proofs.too_many_symbol_or_punctuation.TooManySymbolOrPunctuation.counts.Goals as goal

pub overflow_mul-share : goal.overflow_mul-share
unfolding counts
overflow_mul-share c = search rules

pub overflow_add-share : goal.overflow_add-share
unfolding counts
overflow_add-share c = search rules

pub at_least-requires : goal.at_least-requires
unfolding counts
at_least-requires c = search rules

pub returns : goal.returns
unfolding counts
returns c = simp (c.counts_of.ensures, c.at_least.ensures)
