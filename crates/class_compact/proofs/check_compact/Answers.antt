-- By the cause. Assumes nothing.
use Rattle.base.proofs.Laws.Causes.{handed_on}
use Rattle.base.proofs.Laws.Counted.{counted_allowed, counted_refused}
use Rattle.class_compact_meaning.proofs.Laws.Calls.{allowed_few}
use Rattle.class_compact_meaning.specs.Calls.{check_answer}
use mathlib.Core.Path.{sym, ◌∙◌}
use native.Mathlib.Omega.{arith}
use Rattle.class_compact.proofs.check_compact.Goals as goal

pub overflow_cast-result : goal.overflow_cast-result
overflow_cast-result c = let few = allowed_few _ _ (sym c.bad_compact.ensures ∙ c.in_ok-bad_compact.was) in omega (arith, few)

pub returns-in_err-bad_compact : goal.returns-in_err-bad_compact
unfolding check_answer
returns-in_err-bad_compact c = handed_on _ _ c.from_residual.ensures.1 ∙ sym (counted_refused _ _ _ (sym c.bad_compact.ensures ∙ c.in_err-bad_compact.was))

pub returns : goal.returns
unfolding check_answer
returns c = sym (counted_allowed _ _ (sym c.bad_compact.ensures ∙ c.in_ok-bad_compact.was))
