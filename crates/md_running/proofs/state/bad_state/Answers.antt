-- A refusal exactly where the test holds. Assumes nothing.
use mathlib.Core.Path.{sym, ◌∙◌}
use Rattle.md_running_meaning.proofs.Laws.State.{unsound_bad, sound_good}
use Rattle.md_running.proofs.state.bad_state.Goals as goal

pub returns-then-is_unsound : goal.returns-then-is_unsound
returns-then-is_unsound c = c.refuse.ensures ∙ sym (unsound_bad _ (sym c.is_unsound.ensures ∙ c.if-is_unsound.true))

pub returns : goal.returns
returns c = sym (sound_good _ (sym c.is_unsound.ensures ∙ c.if-is_unsound.false))
