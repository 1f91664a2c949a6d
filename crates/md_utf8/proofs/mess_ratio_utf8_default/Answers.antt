-- Scoring at the default threshold is scoring without one. Assumes nothing.
use mathlib.Core.Path.{◌∙◌}
use Rattle.md_utf8_meaning.proofs.Laws.ScoreUtf8.{default_same_utf8}
use Rattle.md_utf8.proofs.mess_ratio_utf8_default.Goals as goal

pub returns : goal.returns
returns c = c.mess_ratio_utf8.ensures ∙ default_same_utf8 _ _ _
