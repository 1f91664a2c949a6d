-- What is kept of a fraction is not over 0, so it has a ratio. Assumes nothing.
use Rattle.ratio.proofs.Laws.Fraction.{fraction_proper}
use Rattle.replay_ratio.proofs.same_ratio.Goals as goal

pub ratio_bits-requires-2 : goal.ratio_bits-requires-2
ratio_bits-requires-2 c =
    let f = c.fraction_at-f in
    rw (c.fraction_of.ensures, c.counts_of.ensures) (fraction_proper _ f.ensures.small)
