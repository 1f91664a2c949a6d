-- The one cause, or none. Assumes nothing.
use mathlib.Core.Path.{sym, ◌∙◌}
use Rattle.ring_meaning.proofs.Laws.Calls.{open_refused, open_kept}
use Rattle.ring.proofs.open_ring.Goals as goal

pub returns-then-wrong_size : goal.returns-then-wrong_size
returns-then-wrong_size c = c.refuse.ensures ∙ open_refused _ (sym c.wrong_size.ensures ∙ c.if-wrong_size.true)

pub returns : goal.returns
returns c = c.ring_kept.ensures ∙ open_kept _ (sym c.wrong_size.ensures ∙ c.if-wrong_size.false)
