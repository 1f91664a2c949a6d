-- A ratio is no NaN. Assumes nothing.
use Rattle.ratio.proofs.Laws.Rounded.{rounded_plain}
use Rattle.replay_ratio.proofs.ratio_bits.Goals as goal

pub float_to_bits-result : goal.float_to_bits-result
float_to_bits-result c = rw c.rounded.ensures (rounded_plain c.args.f c.requires).no_nan
