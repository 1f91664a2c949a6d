-- By the length. Assumes nothing.
use mathlib.Core.Path.{◌∙◌}
use Rattle.md_compact.proofs.Laws.Either.{text_long, text_fits}
use Rattle.md_compact.proofs.first.first_of_text.Goals as goal

pub returns-then-text-gt-LONGEST_TEXT : goal.returns-then-text-gt-LONGEST_TEXT
returns-then-text-gt-LONGEST_TEXT c = c.refuse.ensures ∙ text_long _ _ c.if-text-gt-LONGEST_TEXT.true

pub returns : goal.returns
returns c = c.first_of_threshold.ensures ∙ text_fits _ _ c.if-text-gt-LONGEST_TEXT.false
