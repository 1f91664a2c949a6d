-- A similarity is no NaN. Assumes nothing.
use Rattle.cd_jaro_meaning.proofs.Laws.Similarity.{similarity_good}
use Rattle.replay_jaro.proofs.similarity_bits.Goals as goal

pub float_to_bits-result : goal.float_to_bits-result
float_to_bits-result c = rw c.similarity.ensures (similarity_good _ _ c.requires.0 c.requires.1).plain.no_nan
