-- Each field is the definition's, and the count that grows has room. Assumes nothing.
use Rattle.md_counts.specs.Inner.TooManySymbolOrPunctuation.{plain}
use mathlib.Core.Path.{refl}
use Rattle.md_counts.proofs.too_many_symbol_or_punctuation.TooManySymbolOrPunctuation.plain.Goals as goal

pub returns : goal.returns
unfolding plain
returns c = refl
