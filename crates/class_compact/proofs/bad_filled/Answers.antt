-- What lies beyond the expansion and then its own check is the check. Assumes nothing.
use Rattle.base.proofs.Laws.Causes.{handed_on}
use Rattle.class_compact_meaning.proofs.Laws.Calls.{filled_refused, filled_allowed}
use mathlib.Core.Path.{sym, ◌∙◌}
use Rattle.class_compact.proofs.bad_filled.Goals as goal

pub returns-in_err-beyond_table : goal.returns-in_err-beyond_table
returns-in_err-beyond_table c =
    handed_on _ _ c.from_residual.ensures.1 ∙ filled_refused _ _ c.requires.filled.sized _ (sym c.beyond_table.ensures ∙ c.in_err-beyond_table.was)

pub returns : goal.returns
returns c =
    c.bad_classes.ensures ∙ filled_allowed _ _ c.requires.filled.sized _ c.requires.filled.is
    (sym c.beyond_table.ensures ∙ c.in_ok-beyond_table.was)
