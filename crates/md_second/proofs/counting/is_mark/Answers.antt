-- One test of a bit for each flag that the definition names. Assumes nothing.
use Rattle.md_second.specs.Inner.After.{is_mark}
use Rattle.md_second.proofs.counting.is_mark.Goals as goal

pub returns : goal.returns
unfolding is_mark
returns c = simp (c.is_set-2.ensures, c.is_set.ensures)
