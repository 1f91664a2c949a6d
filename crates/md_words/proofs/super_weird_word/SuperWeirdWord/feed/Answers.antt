-- Each return is the definition's case, by the tests that led there. Assumes nothing.
use Rattle.md_words.specs.SuperWeirdWord.{feed}
use mathlib.Core.Path.{sym, ◌∙◌}
use borrow.Author.Tests.{eq-eqb, ne_eqb}
use Rattle.md_words.proofs.super_weird_word.SuperWeirdWord.feed.Goals as goal

pub returns-then-is_set : goal.returns-then-is_set
unfolding feed
returns-then-is_set c = simp (sym c.is_set.ensures ∙ c.if-is_set.true) c.letter.ensures

pub returns-then-self-eq0 : goal.returns-then-self-eq0
unfolding feed
returns-then-self-eq0 c = simp (sym c.is_set.ensures ∙ c.if-is_set.false, eq-eqb _ _ c.if-self-eq0.true)

pub returns : goal.returns
unfolding feed
returns c =
    simp (sym c.is_set.ensures ∙ c.if-is_set.false, ne_eqb _ _ c.if-self-eq0.false) c.inside.ensures
