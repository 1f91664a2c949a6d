-- The eight start as ever, and none has grown. Assumes nothing.
use Rattle.md_growth.specs.Growth.{start}
use Rattle.md_growth.proofs.Watched.start.Goals as goal

pub returns : goal.returns
unfolding start
returns c = simp (c.start.ensures, c.no_growths.ensures)
