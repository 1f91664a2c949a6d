-- Each return is the next of 01's causes, or what comes behind them. Assumes nothing.
use mathlib.Core.Path.{sym, ◌∙◌}
use Rattle.cd_meaning.proofs.Laws.Causes.{cause_long, cause_unbounded, cause_on}
use Rattle.cd.proofs.causes.first_cause.Goals as goal

pub returns-then-text-gt-LONGEST_RANKED : goal.returns-then-text-gt-LONGEST_RANKED
returns-then-text-gt-LONGEST_RANKED c = c.refuse.ensures ∙ cause_long _ _ _ _ _ _ _ _ c.if-text-gt-LONGEST_RANKED.true

pub returns-then-not-is_finite : goal.returns-then-not-is_finite
returns-then-not-is_finite c =
    c.refuse-then-not-is_finite.ensures ∙ cause_unbounded _ _ _ _ _ _ _ _ c.if-text-gt-LONGEST_RANKED.false (sym c.is_finite.ensures ∙ c.if-not-is_finite.true)

pub returns : goal.returns
returns c =
    cause_on _ _ _ _ _ _ _ _ c.if-text-gt-LONGEST_RANKED.false (sym c.is_finite.ensures ∙ c.if-not-is_finite.false)
    _
    c.of_tables.ensures
