-- Each field is the definition's, by what the three tests of the word answer; the sums fit, since the counts have room. Assumes nothing.
use Rattle.md_words.specs.SuperWeirdWord.{close}
use Rattle.md_words.proofs.super_weird_word.SuperWeirdWord.close.Goals as goal

pub returns : goal.returns
unfolding close
returns c =
    simp (
      c.pick.ensures.is,
      c.one-2.ensures.is,
      c.one.ensures.is,
      c.accented.ensures,
      c.long-long.ensures,
      c.capital-capital.ensures,
    )
