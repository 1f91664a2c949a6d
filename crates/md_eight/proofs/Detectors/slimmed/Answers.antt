-- The words are those that the state has, and the rest is handed on. Assumes nothing.
use Rattle.md_eight.proofs.Laws.Recounted.{slimmed_same}
use Rattle.md_eight.proofs.Detectors.slimmed.Goals as goal

pub returns : goal.returns
returns c = slimmed_same _ _ c.unwatched.ensures
