-- The first letter is asked for, and of U+0130 the second. Assumes nothing.
use mathlib.Core.Path.{sym, ◌∙◌}
use borrow.Author.Tests.{eq-eqb, ne_eqb}
use Rattle.cd_taken_meaning.proofs.Laws.Unclassed.{missing_first, missing_second, missing_neither}
use Rattle.cd_taken.proofs.some_missing.Goals as goal

pub returns-then-is_missing : goal.returns-then-is_missing
returns-then-is_missing c = sym (missing_first _ _ (sym c.is_missing.ensures ∙ c.if-is_missing.true))

pub returns-then-c-eq-CAPITAL_I_WITH_DOT : goal.returns-then-c-eq-CAPITAL_I_WITH_DOT
returns-then-c-eq-CAPITAL_I_WITH_DOT c =
    c.is_missing-then-c-eq-CAPITAL_I_WITH_DOT.ensures
    ∙ sym (missing_second _ _ (sym c.is_missing.ensures ∙ c.if-is_missing.false) (eq-eqb _ _ c.if-c-eq-CAPITAL_I_WITH_DOT.true))

pub returns : goal.returns
returns c =
    sym (missing_neither _ _ (sym c.is_missing.ensures ∙ c.if-is_missing.false) (ne_eqb _ _ c.if-c-eq-CAPITAL_I_WITH_DOT.false))
