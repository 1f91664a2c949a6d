-- Each of the eight starts is its definition's. Assumes nothing.
use Rattle.md_eight.specs.Detectors.{start}
use Rattle.md_eight.proofs.Detectors.start.Goals as goal

pub returns : goal.returns
unfolding start
returns c =
    simp (c.start.ensures, c.start-2.ensures, c.start-3.ensures, c.start-4.ensures, c.start-5.ensures, c.start-6.ensures, c.start-7.ensures, c.start-8.ensures)
