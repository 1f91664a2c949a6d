-- The default threshold is finite, so the causes are those of a call without one. Assumes nothing.
use mathlib.Core.Path.{◌∙◌}
use lib.ListN.{length}
use Rattle.cd_meaning.proofs.Laws.Coherence.{default_work}
use Rattle.host.proofs.Laws.Matches.{default_answer, default_after}
use Rattle.host.proofs.drasumira_coherence_default.Goals as goal

pub returns-clause-value : goal.returns-clause-value
returns-clause-value c =
    let a = c.args in
    c.drasumira_coherence.ensures.value
    ∙ default_answer a.text.now a.small a.classes.now a.pairs.now a.languages.now a.included.now (length a.work.now) a.matches.now

pub returns-clause-work_after : goal.returns-clause-work_after
returns-clause-work_after c =
    let a = c.args in
    c.drasumira_coherence.ensures.work_after
    ∙ default_work a.text.now a.classes.now a.pairs.now a.languages.now a.included.now a.work.now (length a.work.now) (length a.matches.now)

pub returns-clause-matches_after : goal.returns-clause-matches_after
returns-clause-matches_after c =
    let a = c.args in
    c.drasumira_coherence.ensures.matches_after
    ∙ default_after a.text.now a.small a.classes.now a.pairs.now a.languages.now a.included.now (length a.work.now) a.matches.now
