-- Scoring at the default threshold is scoring without one. Assumes nothing.
use mathlib.Core.Path.{◌∙◌}
use Rattle.md_meaning.proofs.Laws.MessRatio.{default_same}
use Rattle.md.proofs.mess_ratio_default.Goals as goal

pub returns : goal.returns
returns c = c.mess_ratio.ensures ∙ default_same _ _ _
