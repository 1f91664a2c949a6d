-- A fault beyond the expansion is refused in its order; else the expansion is scored. Assumes nothing.
use mathlib.Core.Path.{sym, ◌∙◌}
use Rattle.base.proofs.Laws.Causes.{handed_on}
use Rattle.class_compact_meaning.proofs.Laws.Calls.{filled_refused}
use Rattle.md_compact.proofs.Laws.Either.{bytes_before, bytes_refused, bytes_scored}
use Rattle.md_compact.proofs.utf8_bytes.score_utf8_table.Goals as goal

pub returns-in_err-first_of_bytes : goal.returns-in_err-first_of_bytes
returns-in_err-first_of_bytes c =
    handed_on _ _ c.from_residual.ensures.1 ∙ bytes_before _ _ _ _ _ _ (sym c.first_of_bytes.ensures ∙ c.in_err-first_of_bytes.was)

pub returns-in-Err : goal.returns-in-Err
returns-in-Err c =
    bytes_refused _ _ _ _ _ (sym c.first_of_bytes.ensures ∙ c.in_ok-first_of_bytes.was) _
    (sym (filled_refused _ _ c.requires.filled.sized _ (sym c.beyond_table.ensures ∙ c.in-Err.is)))

pub returns : goal.returns
returns c =
    c.mess_ratio_utf8.ensures ∙ bytes_scored _ _ _ _ _ c.requires.filled.sized _ c.requires.filled.is
    (sym c.beyond_table.ensures ∙ c.in_default.is)
