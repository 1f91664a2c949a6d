-- Each field is the definition's, and the three counts that grow have room. Assumes nothing.
use Rattle.md_words.specs.SuperWeirdWord.{letter}
use Rattle.md_words.proofs.super_weird_word.SuperWeirdWord.letter.Goals as goal

pub returns : goal.returns
unfolding letter
returns c =
    simp (
      c.one-2.ensures.is,
      c.is_set-2.ensures,
      c.one.ensures.is,
      c.is_set.ensures,
      c.watched.ensures,
    )
