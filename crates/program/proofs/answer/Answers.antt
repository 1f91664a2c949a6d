-- The length decides first, as in the definition. Assumes nothing.
use mathlib.Core.Path.{◌∙◌}
use Rattle.program.proofs.Laws.Program.{over, within}
use Rattle.program.proofs.answer.Goals as goal

pub returns-then-bytes-gt-LONGEST_INPUT : goal.returns-then-bytes-gt-LONGEST_INPUT
returns-then-bytes-gt-LONGEST_INPUT c = c.refuse.ensures ∙ over _ c.if-bytes-gt-LONGEST_INPUT.true

pub returns : goal.returns
returns c = c.score_input.ensures ∙ within _ c.if-bytes-gt-LONGEST_INPUT.false
