-- A fault beyond the expansion is refused in its order; else the expansion is scored. Assumes nothing.
use mathlib.Core.Path.{sym, ◌∙◌}
use Rattle.base.proofs.Laws.Causes.{handed_on}
use Rattle.class_compact_meaning.proofs.Laws.Calls.{filled_refused}
use Rattle.md_compact.proofs.Laws.Either.{lines_before, lines_refused, lines_scored}
use Rattle.md_compact.proofs.lines.score_lines_table.Goals as goal

pub returns-in_err-first_of_burst : goal.returns-in_err-first_of_burst
returns-in_err-first_of_burst c =
    let told = lines_before _ _ _ _ _ _ _ (sym c.first_of_burst.ensures ∙ c.in_err-first_of_burst.was) in
    record { value = handed_on _ _ c.from_residual.ensures.1 ∙ told.0; out_after = told.1 }

pub returns-in-Err : goal.returns-in-Err
returns-in-Err c =
    let told = lines_refused _ _ _ _ _ _ (sym c.first_of_burst.ensures ∙ c.in_ok-first_of_burst.was) _
    (sym (filled_refused _ _ c.requires.filled.sized _ (sym c.beyond_table.ensures ∙ c.in-Err.is))) in
    record { value = told.0; out_after = told.1 }

pub returns : goal.returns
returns c =
    let same = lines_scored _ _ _ _ _ _ c.requires.filled.sized _ c.requires.filled.is (sym c.beyond_table.ensures ∙ c.in_default.is) in
    record { value = c.score_lines.ensures.value ∙ same.0; out_after = c.score_lines.ensures.out_after ∙ same.1 }
