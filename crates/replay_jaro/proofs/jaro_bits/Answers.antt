-- The measure is one that `nearest_f32` takes, so it is no NaN. Assumes nothing.
use Rattle.f32_nearest.proofs.Laws.Nearest.{narrowable_real}
use Rattle.cd_jaro_meaning.proofs.Laws.Similarity.{jaro_narrowable}
use Rattle.replay_jaro.proofs.jaro_bits.Goals as goal

pub float_to_bits-result : goal.float_to_bits-result
float_to_bits-result c = rw c.jaro.ensures (narrowable_real _ (jaro_narrowable _ _ c.requires.0 c.requires.1))
