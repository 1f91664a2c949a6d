-- A sum of ratios is no NaN. Assumes nothing.
use Rattle.ratio.proofs.Laws.Fraction.{fractions_proper}
use Rattle.ratio_demand.proofs.Laws.Demand.{sum_plain}
use Rattle.replay_ratio.proofs.sum_bits.Goals as goal

pub float_to_bits-result : goal.float_to_bits-result
float_to_bits-result c =
    let e = c.args.c in
    rw (c.sum.ensures, c.ratios.ensures) (sum_plain _ (fractions_proper e c.requires)).no_nan
