-- Between the infinities lie the finite numbers and nothing else. Assumes nothing.
use lib.Ieee.{nan_bits, of_bits, of_fields, neg}
use Rattle.ratio.proofs.Laws.Finite.{between}
use Rattle.ratio.proofs.finite.is_finite.Goals as goal

pub float_from_bits-infinity : goal.float_from_bits-infinity
unfolding nan_bits
float_from_bits-infinity c = tt

pub returns : goal.returns
unfolding of_bits of_fields neg
returns c = between c.args.threshold
