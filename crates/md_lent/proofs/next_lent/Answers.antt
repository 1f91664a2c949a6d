-- Where nothing was fed the numbers stay but for one; else they are the state's. Assumes nothing.
use mathlib.Core.Path.{◌∙◌}
use Rattle.md_lent_meaning.specs.Lent.{lent_received}
use Rattle.md_lent_meaning.proofs.Laws.Lent.{next_same, next_fed}
use Rattle.md_lent.proofs.next_lent.Goals as goal

pub returns-then-h-s : goal.returns-then-h-s
unfolding lent_received
returns-then-h-s c = next_same _ _ c.if-h-s.true

pub returns : goal.returns
returns c = c.lent_of.ensures ∙ next_fed _ _ c.if-h-s.false
