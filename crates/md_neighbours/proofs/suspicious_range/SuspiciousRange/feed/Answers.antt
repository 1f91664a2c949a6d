-- Each of the three ways to return is one case of the definition, by the tests that led there. Assumes nothing.
use mathlib.Core.Path.{sym, ◌∙◌}
use Rattle.md_neighbours.specs.SuspiciousRange.{feed, followed}
use Rattle.md_neighbours.proofs.suspicious_range.SuspiciousRange.feed.Goals as goal

pub returns-then-is_set : goal.returns-then-is_set
unfolding feed
returns-then-is_set c = simp (sym c.is_set.ensures ∙ c.if-is_set.true)

pub returns-then-forgets : goal.returns-then-forgets
unfolding feed
returns-then-forgets c =
    simp (sym c.is_set.ensures ∙ c.if-is_set.false, sym c.forgets.ensures ∙ c.if-forgets.true) c.forget.ensures

pub returns : goal.returns
unfolding feed followed
returns c =
    simp (sym c.is_set.ensures ∙ c.if-is_set.false, sym c.forgets.ensures ∙ c.if-forgets.false, c.one.ensures.is)
