-- 0.1 is finite, so that the cause between the two is never given. Assumes nothing.
use Rattle.cd_meaning.proofs.Laws.Coherence.{default_ends}
use Rattle.cd.proofs.coherence_ratio_default.Goals as goal

pub returns : goal.returns
returns c =
    let told = default_ends _ _ _ _ _ _ _ _ _ _ _ (c.coherence_ratio.ensures.value, c.coherence_ratio.ensures.work_after) in
    record { value = told.0; work_after = told.1 }
