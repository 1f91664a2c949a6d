-- One test of a bit for each flag that the definition names. Assumes nothing.
use Rattle.md_counts.specs.TooManySymbolOrPunctuation.{counted_symbol}
use Rattle.md_second.proofs.counting.is_plain_symbol.Goals as goal

pub returns : goal.returns
unfolding counted_symbol
returns c =
    simp (c.is_set-4.ensures, c.is_set-3.ensures, c.is_set-2.ensures, c.is_set.ensures)
