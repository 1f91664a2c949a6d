-- Not the last character again and not COMMON_SAFE: the tests of the definition. Assumes nothing.
use Rattle.md_counts.specs.TooManySymbolOrPunctuation.{adds, repeated}
use Rattle.md_counts.proofs.too_many_symbol_or_punctuation.TooManySymbolOrPunctuation.adds.Goals as goal

pub returns : goal.returns
unfolding adds repeated
returns c = simp c.is_set.ensures
