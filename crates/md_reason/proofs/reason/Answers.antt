-- Scoring refuses first; then the list of its detector, among the characters that it fed, is told. Assumes nothing.
use mathlib.Core.Path.{sym, ◌∙◌}
use Rattle.base.proofs.Laws.Causes.{handed_on}
use Rattle.md_reason_meaning.proofs.Laws.Reason.{reason_refused, refused_into, scored_answer, scored_into, scored_ripe}
use Rattle.md_reason.proofs.reason.Goals as goal

pub list_growths-requires : goal.list_growths-requires
list_growths-requires c =
    let ripe = scored_ripe _ _ _ _ _ (sym c.mess_ratio.ensures ∙ c.in_ok-s.was) in
    (ripe.tables, ripe.short, ripe.fed, rw c.detector_of.ensures ripe.detector)

pub returns-in_err-s : goal.returns-in_err-s
returns-in_err-s c =
    let e = sym c.mess_ratio.ensures ∙ c.in_err-s.was in
    record { value = handed_on _ _ c.from_residual.ensures.1 ∙ reason_refused _ _ _ _ _ e _; out_after = refused_into _ _ _ _ _ e _ }

pub returns : goal.returns
returns c =
    let e = sym c.mess_ratio.ensures ∙ c.in_ok-s.was in record {
      value = c.list_growths.ensures.value ∙ scored_answer _ _ _ _ _ e _ c.detector_of.ensures _;
      out_after = c.list_growths.ensures.out_after ∙ scored_into _ _ _ _ _ e _ c.detector_of.ensures _;
    }
