-- Each return is one of the causes before the characters, in their order. Assumes nothing.
use mathlib.Core.Path.{sym, ◌∙◌}
use Rattle.base.proofs.Laws.Causes.{handed_on}
use Rattle.md_running_meaning.proofs.Laws.Feeding.{call_bad, call_full, call_on}
use Rattle.md_running_meaning.proofs.Laws.State.{free_sound}
use Rattle.md_running.proofs.step.check_feed.Goals as goal

pub overflow_sub-s : goal.overflow_sub-s
overflow_sub-s c = (free_sound _ (sym c.bad_state.ensures ∙ c.in_ok-bad_state.was)).declared

pub returns-then-s-n : goal.returns-then-s-n
returns-then-s-n c =
    c.refuse.ensures ∙ sym (call_full _ _ _ _ (sym c.bad_state.ensures ∙ c.in_ok-bad_state.was) c.if-s-n.true)

pub returns-in_err-bad_state : goal.returns-in_err-bad_state
returns-in_err-bad_state c = handed_on _ _ c.from_residual.ensures.1 ∙ sym (call_bad _ _ _ _ _ (sym c.bad_state.ensures ∙ c.in_err-bad_state.was))

pub returns : goal.returns
returns c =
    c.check_tables.ensures ∙ sym (call_on _ _ _ _ (sym c.bad_state.ensures ∙ c.in_ok-bad_state.was) c.if-s-n.false)
