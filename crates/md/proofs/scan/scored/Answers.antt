-- The counts are those of the state that the definition names. Assumes nothing.
use mathlib.Core.Path.{◌∙◌}
use Rattle.md_meaning.proofs.Laws.Scan.{answered_state}
use Rattle.md.proofs.scan.scored.Goals as goal

pub returns : goal.returns
returns c = c.answered.ensures ∙ answered_state _ _ _ _ c.counts.ensures
