-- Each field is the definition's, and the count that grows has room. Assumes nothing.
use mathlib.Core.Path.{refl}
use Rattle.md_counts.specs.Inner.TooManySymbolOrPunctuation.{feed_run}
use Rattle.md_counts.proofs.too_many_symbol_or_punctuation.TooManySymbolOrPunctuation.feed_run.Goals as goal

pub returns : goal.returns
unfolding feed_run
returns c = refl
