-- The invariant: none of the first letters is accentuated, so the others say what all say. Assumes nothing.
use mathlib.Core.Path.{sym, ◌∙◌}
use Rattle.cd_taken.proofs.Loops.Accents.{accented_more, accented_hit, accented_end}
use Rattle.cd_taken.proofs.some_accented.Goals as goal

pub returns-then-is_accentuated : goal.returns-then-is_accentuated
returns-then-is_accentuated c =
    sym (accented_hit _ _ c.loop-letter.invariant c.loop-letter-test.true (sym c.is_accentuated.ensures ∙ c.if-is_accentuated.true))

pub loop-letter-preserved : goal.loop-letter-preserved
loop-letter-preserved c =
    accented_more _ _ c.loop-letter.invariant c.loop-letter-test.true (sym c.is_accentuated.ensures ∙ c.if-is_accentuated.false)

pub returns : goal.returns
returns c = sym (accented_end _ _ c.loop-letter.invariant c.loop-letter-test.false)
