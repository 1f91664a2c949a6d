-- Each field is the definition's, and the three counts that grow have room. Assumes nothing.
use Rattle.md_words.specs.Inner.SuperWeirdWord.{letters}
use Rattle.md_words.proofs.super_weird_word.SuperWeirdWord.letters.Goals as goal

pub returns : goal.returns
unfolding letters
returns c =
    simp (
      c.pick-2.ensures.is,
      c.is_set-2.ensures,
      c.pick.ensures.is,
      c.is_set.ensures,
      c.watched.ensures,
    )
