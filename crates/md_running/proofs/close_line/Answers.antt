-- 19, or what closing says of a sound state. Assumes nothing.
use mathlib.Core.Path.{sym, ◌∙◌}
use Rattle.base.proofs.Laws.Causes.{handed_on}
use Rattle.md_running_meaning.proofs.Laws.Closing.{close_refused, close_on}
use Rattle.md_running_meaning.proofs.Laws.State.{free_sound}
use Rattle.md_running.proofs.close_line.Goals as goal

pub close_sound-requires : goal.close_sound-requires
close_sound-requires c = free_sound _ (sym c.bad_state.ensures ∙ c.in_ok-bad_state.was)

pub returns-in_err-bad_state : goal.returns-in_err-bad_state
returns-in_err-bad_state c = handed_on _ _ c.from_residual.ensures.1 ∙ close_refused _ _ (sym c.bad_state.ensures ∙ c.in_err-bad_state.was)

pub returns : goal.returns
returns c =
    c.close_sound.ensures ∙ close_on _ (sym c.bad_state.ensures ∙ c.in_ok-bad_state.was)
