-- An unprintable character returns the state; any other one is `printable`, which is `plain` without a mark. Assumes nothing.
use Rattle.md_counts.specs.TooManySymbolOrPunctuation.{feed}
use Rattle.md_counts.proofs.Laws.TooManySymbolOrPunctuation.{plain_printable}
use mathlib.Core.Path.{sym, ◌∙◌}
use Rattle.md_counts.proofs.too_many_symbol_or_punctuation.TooManySymbolOrPunctuation.feed.Goals as goal

pub returns-then-is_set : goal.returns-then-is_set
unfolding feed
returns-then-is_set c = simp (sym c.is_set.ensures ∙ c.if-is_set.true)

pub returns-then-marked : goal.returns-then-marked
unfolding feed
returns-then-marked c = simp (sym c.is_set.ensures ∙ c.if-is_set.false) c.printable.ensures

pub returns : goal.returns
unfolding feed
returns c =
    simp (sym c.is_set.ensures ∙ c.if-is_set.false) (c.plain.ensures ∙ plain_printable _ _ (sym c.marked.ensures ∙ c.if-marked.false))
