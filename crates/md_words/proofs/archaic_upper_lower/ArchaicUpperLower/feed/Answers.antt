-- Each return is the definition's case, by the test that led there. Assumes nothing.
use Rattle.md_words.specs.ArchaicUpperLower.{feed}
use mathlib.Core.Path.{sym, ◌∙◌}
use Rattle.md_words.proofs.archaic_upper_lower.ArchaicUpperLower.feed.Goals as goal

pub returns-then-separates : goal.returns-then-separates
unfolding feed
returns-then-separates c = simp (sym c.separates.ensures ∙ c.if-separates.true) c.separator.ensures

pub returns : goal.returns
unfolding feed
returns c = simp (sym c.separates.ensures ∙ c.if-separates.false) c.letter.ensures
