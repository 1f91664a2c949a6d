-- Scoring at the default threshold is scoring without one. Assumes nothing.
use Rattle.md_compact.proofs.Laws.Either.{default_same_utf8_compact}
use mathlib.Core.Path.{◌∙◌}
use Rattle.md_compact.proofs.utf8_bytes.mess_ratio_utf8_compact_default.Goals as goal

pub returns : goal.returns
returns c = c.mess_ratio_utf8_compact.ensures ∙ default_same_utf8_compact _ _ _ _
