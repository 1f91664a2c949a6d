-- Each field is the definition's, and the count that grows has room. Assumes nothing.
use Rattle.md_neighbours.specs.Inner.SuspiciousDuplicateAccent.{plain}
use mathlib.Core.Path.{refl}
use Rattle.md_neighbours.proofs.suspicious_duplicate_accent.SuspiciousDuplicateAccent.plain.Goals as goal

pub returns : goal.returns
unfolding plain
returns c = refl
