-- Each field is the definition's, count by count. Assumes nothing.
use Rattle.md_counts.specs.TooManySymbolOrPunctuation.{printable}
use Rattle.md_counts.proofs.too_many_symbol_or_punctuation.TooManySymbolOrPunctuation.printable.Goals as goal

pub returns : goal.returns
unfolding printable
returns c =
    simp (c.one-2.ensures.is, c.counted_symbol.ensures, c.one.ensures.is, c.is_set.ensures, c.adds-adds.ensures)
