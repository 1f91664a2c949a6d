-- Each return is the definition's case, by the tests that led there. Assumes nothing.
use Rattle.md_words.specs.SuperWeirdWord.{inside}
use mathlib.Core.Path.{sym, ◌∙◌}
use Rattle.md_words.proofs.super_weird_word.SuperWeirdWord.inside.Goals as goal

pub returns-then-closes : goal.returns-then-closes
unfolding inside
returns-then-closes c = simp (sym c.closes.ensures ∙ c.if-closes.true) c.close.ensures

pub returns-then-counted : goal.returns-then-counted
unfolding inside
returns-then-counted c =
    simp (sym c.closes.ensures ∙ c.if-closes.false, sym c.counted.ensures ∙ c.if-counted.true) c.symbol.ensures

pub returns : goal.returns
unfolding inside
returns c = simp (sym c.closes.ensures ∙ c.if-closes.false, sym c.counted.ensures ∙ c.if-counted.false)
