-- The four flag tests, in the definition's order. Assumes nothing.
use Rattle.md_counts.specs.TooManySymbolOrPunctuation.{counted_symbol}
use Rattle.md_counts.proofs.too_many_symbol_or_punctuation.counted_symbol.Goals as goal

pub returns : goal.returns
unfolding counted_symbol
returns c =
    simp (c.is_set-4.ensures, c.is_set-3.ensures, c.is_set-2.ensures, c.is_set.ensures)
