-- By the threshold. Assumes nothing.
use mathlib.Core.Bool.{not}
use mathlib.Core.Path.{sym, ap, ◌∙◌}
use Rattle.md_compact.proofs.Laws.Either.{threshold_bad, threshold_fine}
use Rattle.md_compact.proofs.first.first_of_threshold.Goals as goal

pub returns-then-not-is_finite : goal.returns-then-not-is_finite
returns-then-not-is_finite c = c.refuse.ensures ∙ threshold_bad _ (ap not (sym c.is_finite.ensures ∙ c.if-not-is_finite.true))

pub returns : goal.returns
returns c = threshold_fine _ (ap not (sym c.is_finite.ensures ∙ c.if-not-is_finite.false))
