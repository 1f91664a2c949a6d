-- Latin letters are `plain_run`; any other characters return the state. Assumes nothing.
use mathlib.Core.Path.{sym, ◌∙◌}
use Rattle.md_neighbours.specs.Inner.SuspiciousDuplicateAccent.{feed_run, plain_run}
use Rattle.md_neighbours.proofs.suspicious_duplicate_accent.SuspiciousDuplicateAccent.feed_run.Goals as goal

pub returns-then-latin_letter : goal.returns-then-latin_letter
unfolding feed_run plain_run
returns-then-latin_letter c = simp (sym c.latin_letter.ensures ∙ c.if-latin_letter.true)

pub returns : goal.returns
unfolding feed_run
returns c = simp (sym c.latin_letter.ensures ∙ c.if-latin_letter.false)
