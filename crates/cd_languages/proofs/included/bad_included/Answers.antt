-- Each return is one law of the causes, in 01's order.
-- Assumes nothing.
use mathlib.Core.Path.{sym, ap, ◌∙◌}
use Rattle.base.specs.Causes.{refused_at}
use Rattle.base.specs.declared.refusals.Cause.TheVariants.{BadIncluded}
use Rattle.cd_languages.proofs.Laws.Included.{over_refused, lone_allowed, number_refused, none_missing}
use Rattle.cd_languages.proofs.included.bad_included.Goals as goal

pub returns-then-n-gt-MOST_INCLUDED : goal.returns-then-n-gt-MOST_INCLUDED
returns-then-n-gt-MOST_INCLUDED c = c.refuse.ensures ∙ sym (over_refused _ _ c.if-n-gt-MOST_INCLUDED.true)

pub returns-then-lone_zero : goal.returns-then-lone_zero
returns-then-lone_zero c = sym (lone_allowed _ _ c.if-n-gt-MOST_INCLUDED.false (sym c.lone_zero.ensures ∙ c.if-lone_zero.true))

pub returns-then-missing-n : goal.returns-then-missing-n
returns-then-missing-n c =
    c.refuse-then-missing-n.ensures ∙ ap (refused_at BadIncluded) c.first_missing-missing.ensures
    ∙ sym (number_refused _ _ c.if-n-gt-MOST_INCLUDED.false (sym c.lone_zero.ensures ∙ c.if-lone_zero.false) (rw c.first_missing-missing.ensures at c.if-missing-n.true))

pub returns : goal.returns
returns c =
    sym (none_missing _ _ c.if-n-gt-MOST_INCLUDED.false (rw c.first_missing-missing.ensures at c.if-missing-n.false))
