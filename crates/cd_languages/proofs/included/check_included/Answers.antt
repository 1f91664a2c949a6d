-- By the cause: without one there are at most 64 numbers.
-- Assumes nothing.
use native.Mathlib.Omega.{arith}
use mathlib.Core.Path.{sym, ◌∙◌}
use Rattle.base.proofs.Laws.Causes.{handed_on}
use Rattle.base.proofs.Laws.Counted.{counted_allowed, counted_refused}
use Rattle.cd_languages.specs.Included.{checked_included}
use Rattle.cd_languages.proofs.Laws.Included.{free_permitted}
use Rattle.cd_languages.proofs.included.check_included.Goals as goal

pub overflow_cast-result : goal.overflow_cast-result
overflow_cast-result c = omega (arith, (free_permitted _ _ (sym c.bad_included.ensures ∙ c.in_ok-bad_included.was)).few)

pub returns-in_err-bad_included : goal.returns-in_err-bad_included
unfolding checked_included
returns-in_err-bad_included c = handed_on _ _ c.from_residual.ensures.1 ∙ sym (counted_refused _ _ _ (sym c.bad_included.ensures ∙ c.in_err-bad_included.was))

pub returns : goal.returns
unfolding checked_included
returns c = sym (counted_allowed _ _ (sym c.bad_included.ensures ∙ c.in_ok-bad_included.was))
