-- Each return is the definition's case, by the test that led there. Assumes nothing.
use mathlib.Core.Path.{sym, ◌∙◌}
use Rattle.md_words.specs.ArchaicUpperLower.{feed}
use Rattle.md_second.specs.Inner.Reading.{cased}
use Rattle.md_second.proofs.readers.cased.Goals as goal

pub returns-then-parts_case : goal.returns-then-parts_case
unfolding feed cased
returns-then-parts_case c = simp (sym c.parts_case.ensures ∙ c.if-parts_case.true) c.case_parted.ensures

pub returns : goal.returns
unfolding feed cased
returns c = simp (sym c.parts_case.ensures ∙ c.if-parts_case.false) c.case_seen.ensures
