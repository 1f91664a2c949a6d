-- Scoring at the default threshold is scoring without one. Assumes nothing.
use Rattle.md_compact.proofs.Laws.Either.{default_same_compact}
use mathlib.Core.Path.{◌∙◌}
use Rattle.md_compact.proofs.mess_ratio_compact_default.Goals as goal

pub returns : goal.returns
returns c = c.mess_ratio_compact.ensures ∙ default_same_compact _ _ _ _
