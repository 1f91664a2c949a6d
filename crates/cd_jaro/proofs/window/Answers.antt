-- The longer length is picked by the definition's test; half of it less 1 is `less`. Assumes nothing.
use mathlib.Core.Path.{◌∙◌}
use borrow.Author.Tests.{lt-ltb, le-ltb}
use Rattle.cd_jaro_meaning.specs.Jaro.{window}
use Rattle.cd_jaro.proofs.window.Goals as goal

pub returns-then-a-b : goal.returns-then-a-b
unfolding window
returns-then-a-b c = c.less.ensures ∙ simp (lt-ltb _ _ c.if-a-b.true)

pub returns : goal.returns
unfolding window
returns c = c.less-2.ensures ∙ simp (le-ltb _ _ c.if-a-b.false)
