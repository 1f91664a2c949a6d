-- Each field is the definition's, and the three counts that grow have room. Assumes nothing.
use Rattle.md_words.specs.ArchaicUpperLower.{letter}
use Rattle.md_words.proofs.archaic_upper_lower.ArchaicUpperLower.letter.Goals as goal

pub returns : goal.returns
unfolding letter
returns c =
    simp (c.is_set.ensures, c.pick.ensures.is, c.changes-changed.ensures)
