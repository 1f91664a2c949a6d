-- A proper fraction is small. Assumes nothing.
use Rattle.replay_ratio.proofs.counts_at.Goals as goal

pub returns : goal.returns
returns c = rw c.counts_of.ensures c.fraction_at.ensures.small
