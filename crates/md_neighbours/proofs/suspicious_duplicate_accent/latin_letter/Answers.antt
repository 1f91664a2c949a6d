-- The two flag tests of the definition. Assumes nothing.
use Rattle.md_neighbours.specs.SuspiciousDuplicateAccent.{latin_letter}
use Rattle.md_neighbours.proofs.suspicious_duplicate_accent.latin_letter.Goals as goal

pub returns : goal.returns
unfolding latin_letter
returns c = simp (c.is_set-2.ensures, c.is_set.ensures)
