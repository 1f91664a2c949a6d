-- One test of a bit for each flag that the definition names. Assumes nothing.
use Rattle.md_words.specs.SuperWeirdWord.{watched}
use Rattle.md_second.proofs.readers.is_foreign.Goals as goal

pub returns : goal.returns
unfolding watched
returns c =
    simp (
      c.is_set-7.ensures,
      c.is_set-6.ensures,
      c.is_set-5.ensures,
      c.is_set-4.ensures,
      c.is_set-3.ensures,
      c.is_set-2.ensures,
      c.is_set.ensures,
    )
