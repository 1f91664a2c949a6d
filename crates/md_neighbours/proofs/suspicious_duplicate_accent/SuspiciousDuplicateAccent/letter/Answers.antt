-- Each field is the definition's, count by count. Assumes nothing.
use Rattle.md_neighbours.specs.SuspiciousDuplicateAccent.{letter}
use Rattle.md_neighbours.proofs.suspicious_duplicate_accent.SuspiciousDuplicateAccent.letter.Goals as goal

pub returns : goal.returns
unfolding letter
returns c = cc
