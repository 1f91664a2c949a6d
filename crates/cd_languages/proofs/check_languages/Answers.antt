-- By the cause: without one there are at most 63 records.
-- Assumes nothing.
use native.Mathlib.Omega.{arith}
use mathlib.Core.Path.{sym, ◌∙◌}
use Rattle.base.proofs.Laws.Causes.{handed_on}
use Rattle.base.proofs.Laws.Counted.{counted_allowed, counted_refused}
use Rattle.cd_languages.specs.Check.{checked}
use Rattle.cd_languages.proofs.Laws.Check.{free_few}
use Rattle.cd_languages.proofs.check_languages.Goals as goal

pub overflow_cast-result : goal.overflow_cast-result
overflow_cast-result c = omega (arith, free_few _ (sym c.bad_languages.ensures ∙ c.in_ok-bad_languages.was))

pub returns-in_err-bad_languages : goal.returns-in_err-bad_languages
unfolding checked
returns-in_err-bad_languages c = handed_on _ _ c.from_residual.ensures.1 ∙ sym (counted_refused _ _ _ (sym c.bad_languages.ensures ∙ c.in_err-bad_languages.was))

pub returns : goal.returns
unfolding checked
returns c = sym (counted_allowed _ _ (sym c.bad_languages.ensures ∙ c.in_ok-bad_languages.was))
