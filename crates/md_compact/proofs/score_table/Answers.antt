-- A fault beyond the expansion is refused in its order; else the expansion is scored. Assumes nothing.
use mathlib.Core.Path.{sym, ◌∙◌}
use Rattle.base.proofs.Laws.Causes.{handed_on}
use Rattle.class_compact_meaning.proofs.Laws.Calls.{filled_refused}
use Rattle.md_compact.proofs.Laws.Either.{text_before, text_refused, text_scored}
use Rattle.md_compact.proofs.score_table.Goals as goal

pub returns-in_err-first_of_text : goal.returns-in_err-first_of_text
returns-in_err-first_of_text c =
    handed_on _ _ c.from_residual.ensures.1 ∙ text_before _ _ _ _ _ _ (sym c.first_of_text.ensures ∙ c.in_err-first_of_text.was)

pub returns-in-Err : goal.returns-in-Err
returns-in-Err c =
    text_refused _ _ _ _ _ (sym c.first_of_text.ensures ∙ c.in_ok-first_of_text.was) _
    (sym (filled_refused _ _ c.requires.filled.sized _ (sym c.beyond_table.ensures ∙ c.in-Err.is)))

pub returns : goal.returns
returns c =
    c.mess_ratio.ensures ∙ text_scored _ _ _ _ _ c.requires.filled.sized _ c.requires.filled.is
    (sym c.beyond_table.ensures ∙ c.in_default.is)
