-- Each field is the definition's, and the two counts that grow have room. Assumes nothing.
use Rattle.md_words.specs.SuperWeirdWord.{symbol}
use Rattle.md_words.proofs.super_weird_word.SuperWeirdWord.symbol.Goals as goal

pub returns : goal.returns
unfolding symbol
returns c =
    simp (c.one.ensures.is, c.is_set.ensures)
