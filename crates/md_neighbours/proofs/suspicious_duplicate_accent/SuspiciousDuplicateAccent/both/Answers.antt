-- The flag test of the definition, on each of the two. Assumes nothing.
use Rattle.md_neighbours.specs.SuspiciousDuplicateAccent.{both}
use Rattle.md_neighbours.proofs.suspicious_duplicate_accent.SuspiciousDuplicateAccent.both.Goals as goal

pub returns : goal.returns
unfolding both
returns c = simp (c.is_set-2.ensures, c.is_set.ensures)
