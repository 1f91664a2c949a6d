-- Bits that are no NaN's make the float that they are; and the difference of two infinities is the NaN. Assumes nothing.
use Rattle.md_lent_meaning.proofs.Laws.Bits.{nan_bits_lem, number_bits, infinity_bits}
use Rattle.md_lent.proofs.numbers.threshold_of.Goals as goal

pub float_from_bits-infinity : goal.float_from_bits-infinity
float_from_bits-infinity c = infinity_bits

pub returns-then-bits-gt-INFINITY_BITS : goal.returns-then-bits-gt-INFINITY_BITS
returns-then-bits-gt-INFINITY_BITS c = nan_bits_lem _ c.if-bits-gt-INFINITY_BITS.true

pub float_from_bits-result : goal.float_from_bits-result
float_from_bits-result c = number_bits _ c.if-bits-gt-INFINITY_BITS.false
