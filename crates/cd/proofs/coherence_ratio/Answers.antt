-- Where there is a cause, it is the answer and nothing was written; where there is none, the text is ranked. Assumes nothing.
use Rattle.base.proofs.Laws.Causes.{handed_on}
use Rattle.cd_meaning.proofs.Laws.Causes.{allowed_free}
use Rattle.cd_meaning.proofs.Laws.Coherence.{refused_ends, allowed_ends}
use Rattle.cd.proofs.coherence_ratio.Goals as goal

pub rank_text-requires : goal.rank_text-requires
rank_text-requires c = allowed_free _ _ _ _ _ _ _ _ _ c.first_cause.ensures c.in_ok-first_cause.was

pub returns-in_err-first_cause : goal.returns-in_err-first_cause
returns-in_err-first_cause c =
    let told = refused_ends _ _ _ _ _ _ _ _ _ _ _ c.first_cause.ensures _ c.in_err-first_cause.was _ (handed_on _ _ c.from_residual.ensures.1) in
    record { value = told.0; work_after = told.1 }

pub returns : goal.returns
returns c =
    let told = allowed_ends _ _ _ _ _ _ _ _ _ _ _ c.first_cause.ensures c.in_ok-first_cause.was _ _
    c.rank_text.ensures in
    record { value = told.0; work_after = told.1 }
