-- A Latin letter is `letter`, which is `plain` without an accent; any other character returns the state. Assumes nothing.
use Rattle.md_neighbours.specs.SuspiciousDuplicateAccent.{feed}
use Rattle.md_neighbours.proofs.Laws.SuspiciousDuplicateAccent.{plain_letter}
use mathlib.Core.Path.{sym, ◌∙◌}
use Rattle.md_neighbours.proofs.suspicious_duplicate_accent.SuspiciousDuplicateAccent.feed.Goals as goal

pub returns-then-not-latin_letter : goal.returns-then-not-latin_letter
unfolding feed
returns-then-not-latin_letter c = simp (sym c.latin_letter.ensures ∙ c.if-not-latin_letter.true)

pub returns-then-is_set : goal.returns-then-is_set
unfolding feed
returns-then-is_set c = simp (sym c.latin_letter.ensures ∙ c.if-not-latin_letter.false) c.letter.ensures

pub returns : goal.returns
unfolding feed
returns c =
    simp (sym c.latin_letter.ensures ∙ c.if-not-latin_letter.false) (c.plain.ensures ∙ plain_letter _ _ (sym c.is_set.ensures ∙ c.if-is_set.false))
