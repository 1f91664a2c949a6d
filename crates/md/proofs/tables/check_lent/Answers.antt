-- A threshold that is not finite, or else the tables' cause. Assumes nothing.
use mathlib.Core.Path.{sym, ◌∙◌}
use Rattle.md_meaning.proofs.Laws.Lent.{lent_unbounded, lent_on}
use Rattle.md.proofs.tables.check_lent.Goals as goal

pub returns-then-not-is_finite : goal.returns-then-not-is_finite
returns-then-not-is_finite c = c.refuse.ensures ∙ sym (lent_unbounded _ _ _ (sym c.is_finite.ensures ∙ c.if-not-is_finite.true))

pub returns : goal.returns
returns c = c.check_tables.ensures ∙ sym (lent_on _ _ _ (sym c.is_finite.ensures ∙ c.if-not-is_finite.false))
