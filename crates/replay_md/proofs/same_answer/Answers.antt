-- A score's floats are no NaN. Assumes nothing.
use Rattle.replay_md.proofs.same_answer.Goals as goal

pub same_score-requires : goal.same_score-requires
same_score-requires c = c.requires _ c.in-Ok.is
