-- The definition's record, its parts by their contracts. Assumes nothing.
use Rattle.md_lent_meaning.specs.Lent.{running_of}
use Rattle.md_lent.proofs.numbers.running_of.Goals as goal

pub returns : goal.returns
unfolding running_of
returns c = simp (c.threshold_of.ensures, c.eight_of.ensures, c.growths_of.ensures)
