-- Each return is the definition's case, by the test that led there. Assumes nothing.
use Rattle.md_words.specs.Inner.SuperWeirdWord.{feed_run}
use mathlib.Core.Path.{sym, ◌∙◌}
use Rattle.md_words.proofs.super_weird_word.SuperWeirdWord.feed_run.Goals as goal

pub returns-then-not-is_set : goal.returns-then-not-is_set
unfolding feed_run
returns-then-not-is_set c = simp (sym c.is_set.ensures ∙ c.if-not-is_set.true)

pub returns : goal.returns
unfolding feed_run
returns c = simp (sym c.is_set.ensures ∙ c.if-not-is_set.false) c.letters.ensures
