-- The bits of the nearest f32 are the f64's with 29 digits dropped, rounded, and the biases' difference taken off (`nearest_bits`); each
-- need is one law of Steps.
-- Assumes nothing.
use Rattle.f32_nearest.proofs.Laws.Nearest.{narrowable_real}
use Rattle.f32_nearest.proofs.Laws.Steps.{zero_out, settled_fits, settled_low, settled_high, settled_real, settled_out}
use Rattle.f32_nearest.proofs.nearest_f32.Goals as goal

pub float_to_bits-u : goal.float_to_bits-u
float_to_bits-u c = narrowable_real _ c.requires

pub returns-then-u-eq0 : goal.returns-then-u-eq0
returns-then-u-eq0 c = zero_out _ c.requires c.well_formed.0.1 c.if-u-eq0.true

pub settled-v-requires : goal.settled-v-requires
settled-v-requires c = settled_fits _ c.requires c.well_formed.0.1 c.if-u-eq0.false

pub overflow_sub-v : goal.overflow_sub-v
overflow_sub-v c = settled_low _ c.requires c.well_formed.0.1 c.if-u-eq0.false _ c.settled-v.ensures

pub overflow_cast-result : goal.overflow_cast-result
overflow_cast-result c = record { fits = settled_high _ c.requires c.well_formed.0.1 c.if-u-eq0.false _ c.settled-v.ensures }

pub float_from_bits-result : goal.float_from_bits-result
float_from_bits-result c = settled_real _ c.requires c.well_formed.0.1 c.if-u-eq0.false _ c.settled-v.ensures

pub returns : goal.returns
returns c = settled_out _ c.requires c.well_formed.0.1 c.if-u-eq0.false _ c.settled-v.ensures
