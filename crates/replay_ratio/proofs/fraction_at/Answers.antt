-- What is kept of a fraction within the bounds is not over 0. Assumes nothing.
use Rattle.ratio.proofs.Laws.Fraction.{fraction_proper}
use Rattle.replay_ratio.proofs.fraction_at.Goals as goal

pub returns : goal.returns
returns c = rw (c.fraction_of.ensures, c.counts_of.ensures) (fraction_proper _ c.bounded.ensures)
