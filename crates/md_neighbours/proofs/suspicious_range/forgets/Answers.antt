-- The three flag tests of the definition. Assumes nothing.
use Rattle.md_neighbours.specs.SuspiciousRange.{forgets}
use Rattle.md_neighbours.proofs.suspicious_range.forgets.Goals as goal

pub returns : goal.returns
unfolding forgets
returns c = simp (c.is_set-3.ensures, c.is_set-2.ensures, c.is_set.ensures)
