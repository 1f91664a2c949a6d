-- The count of records where there is no cause, else the refusal. A good table has few records. Assumes nothing.
use mathlib.Core.Path.{sym, ◌∙◌}
use native.Mathlib.Omega.{arith}
use Rattle.base.proofs.Laws.Causes.{handed_on}
use Rattle.base.proofs.Laws.Counted.{counted_allowed, counted_refused}
use Rattle.classes.specs.Check.{checked}
use Rattle.classes.proofs.Laws.Check.{free_few}
use Rattle.classes.proofs.check_classes.Goals as goal

pub overflow_cast-result : goal.overflow_cast-result
overflow_cast-result c = omega (arith, free_few _ (sym c.bad_classes.ensures ∙ c.in_ok-bad_classes.was))

pub returns-in_err-bad_classes : goal.returns-in_err-bad_classes
unfolding checked
returns-in_err-bad_classes c =
    handed_on _ _ c.from_residual.ensures.1 ∙ sym (counted_refused _ _ _ (sym c.bad_classes.ensures ∙ c.in_err-bad_classes.was))

pub returns : goal.returns
unfolding checked
returns c = sym (counted_allowed _ _ (sym c.bad_classes.ensures ∙ c.in_ok-bad_classes.was))
