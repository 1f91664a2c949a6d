-- The ranking by value is the call's, fits the lent list, and is put into it. Assumes nothing.
use Rattle.std.specs.Prelude.{Result}
use mathlib.Core.Path.{ap, ◌∙◌}
use lib.ListN.{length}
use Rattle.base.specs.declared.Refusal.{Refusal}
use Rattle.base.specs.Put.{put}
use Rattle.cd_ranking.specs.declared.Ranking.{Ranking}
use Rattle.cd_list.specs.Inner.Lent.{matches_in, answer_of}
use Rattle.cd_meaning.proofs.Laws.Fits.{ratio_fits}
use Rattle.host.proofs.Laws.Matches.{ratio_answer, ratio_after}
use Rattle.host.proofs.drasumira_coherence.Goals as goal

pub put-requires : goal.put-requires
put-requires c =
    let a = c.args in
    rw c.coherence_ratio-r.ensures.value
    (ratio_fits a.text.now a.threshold a.small a.classes.now a.pairs.now a.languages.now a.included.now (length a.work.now) (length a.matches.now))

pub returns-clause-value : goal.returns-clause-value
returns-clause-value c =
    let a = c.args in
    c.put.ensures.0
    ∙ ap answer_of c.coherence_ratio-r.ensures.value
    ∙ ratio_answer a.text.now a.threshold a.small a.classes.now a.pairs.now a.languages.now a.included.now (length a.work.now) a.matches.now

pub returns-clause-matches_after : goal.returns-clause-matches_after
returns-clause-matches_after c =
    let a = c.args in
    c.put.ensures.1
    ∙ ap (λ (r : Result Ranking Refusal). put a.matches.now 0 (matches_in r)) c.coherence_ratio-r.ensures.value
    ∙ ratio_after a.text.now a.threshold a.small a.classes.now a.pairs.now a.languages.now a.included.now (length a.work.now) a.matches.now
