-- A score is no NaN, so that its bits make a float. Assumes nothing.
use Rattle.cd_merge_meaning.proofs.Laws.Check.{score_bits}
use Rattle.cd_merge.proofs.check.score_of.Goals as goal

pub float_from_bits-result : goal.float_from_bits-result
float_from_bits-result c = score_bits _ c.requires.1
