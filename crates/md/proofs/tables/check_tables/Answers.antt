-- The class table's cause, or else the pair table's. Assumes nothing.
use mathlib.Core.Path.{sym, ◌∙◌}
use Rattle.base.proofs.Laws.Causes.{handed_on}
use Rattle.md_meaning.proofs.Laws.Lent.{tables_bad, tables_on}
use Rattle.md.proofs.tables.check_tables.Goals as goal

pub returns-in_err-bad_classes : goal.returns-in_err-bad_classes
returns-in_err-bad_classes c = handed_on _ _ c.from_residual.ensures.1 ∙ sym (tables_bad _ _ _ (sym c.bad_classes.ensures ∙ c.in_err-bad_classes.was))

pub returns : goal.returns
returns c = c.bad_pairs.ensures ∙ sym (tables_on _ _ (sym c.bad_classes.ensures ∙ c.in_ok-bad_classes.was))
