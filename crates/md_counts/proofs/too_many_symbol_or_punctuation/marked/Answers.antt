-- One test of a bit for each flag that the definition names. Assumes nothing.
use Rattle.md_counts.specs.Inner.TooManySymbolOrPunctuation.{marked}
use Rattle.md_counts.proofs.too_many_symbol_or_punctuation.marked.Goals as goal

pub returns : goal.returns
unfolding marked
returns c = simp (c.is_set-2.ensures, c.is_set.ensures)
