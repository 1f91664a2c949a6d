-- One test of a bit for each flag that the definition names. Assumes nothing.
use Rattle.md_neighbours.specs.SuspiciousRange.{forgets}
use Rattle.md_second.proofs.counting.is_forgetful.Goals as goal

pub returns : goal.returns
unfolding forgets
returns c = simp (c.is_set-3.ensures, c.is_set-2.ensures, c.is_set.ensures)
