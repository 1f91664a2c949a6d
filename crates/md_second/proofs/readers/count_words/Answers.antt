-- The definition's two counts, and its test of the cut-off. Assumes nothing.
use Rattle.md_words.specs.SuperWeirdWord.{counts}
use Rattle.md_second.proofs.readers.count_words.Goals as goal

pub returns : goal.returns
unfolding counts
returns c = c.counts_of.ensures
