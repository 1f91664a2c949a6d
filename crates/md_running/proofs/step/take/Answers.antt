-- A stopped line counts the character, any other is fed it. Assumes nothing.
use mathlib.Core.Path.{◌∙◌}
use Rattle.md_running_meaning.proofs.Laws.Feeding.{step_stopped, step_going}
use Rattle.md_running.proofs.step.take.Goals as goal

pub returns-then-s : goal.returns-then-s
returns-then-s c = c.arrived.ensures ∙ step_stopped _ _ _ c.if-s.true

pub returns : goal.returns
returns c = c.fed_on.ensures ∙ step_going _ _ _ c.if-s.false
