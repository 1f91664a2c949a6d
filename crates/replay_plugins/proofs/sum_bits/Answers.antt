-- A sum of ratios is no NaN. Assumes nothing.
use Rattle.replay_plugins.proofs.sum_bits.Goals as goal

pub float_to_bits-result : goal.float_to_bits-result
float_to_bits-result c = rw c.sum.ensures c.requires.sum.no_nan
