-- Each field is the definition's, and the count that grows has room. Assumes nothing.
use mathlib.Core.Path.{refl}
use Rattle.md_neighbours.specs.SuspiciousRange.{forgotten}
use Rattle.md_neighbours.proofs.suspicious_range.SuspiciousRange.forget.Goals as goal

pub returns : goal.returns
unfolding forgotten
returns c = refl
