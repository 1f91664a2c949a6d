-- A text that was written had room. Assumes nothing.
use mathlib.Core.Path.{sym, ◌∙◌}
use Rattle.md_report_meaning.proofs.Laws.Answer.{count_fits}
use Rattle.score_month.proofs.report_rows.Goals as goal

pub returns-in-Ok : goal.returns-in-Ok
returns-in-Ok c =
    count_fits _ _ _ (sym c.report.ensures.value ∙ c.in-Ok.is)
