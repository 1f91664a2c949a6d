-- What `nearest_f32` takes is no NaN, and so is what it gives. Assumes nothing.
use Rattle.f32_nearest.proofs.Laws.Nearest.{narrowable_real, nearest_real}
use Rattle.replay_jaro.proofs.nearest_bits.Goals as goal

pub float_to_bits-result : goal.float_to_bits-result
float_to_bits-result c = rw c.nearest_f32.ensures (nearest_real _ (narrowable_real _ c.requires))
