-- Each return is one law of the causes, in 01's order.
-- Assumes nothing.
use mathlib.Core.Path.{sym, ap, ◌∙◌}
use Rattle.base.specs.Causes.{refused_at}
use Rattle.base.specs.declared.refusals.Cause.TheVariants.{BadLanguages}
use Rattle.cd_languages.proofs.Laws.Check.{length_refused, number_refused, record_refused, none_refused}
use Rattle.cd_languages.proofs.bad_languages.Goals as goal

pub returns-then-t-ne0 : goal.returns-then-t-ne0
returns-then-t-ne0 c = c.refuse.ensures ∙ sym (length_refused _ c.if-t-ne0.true)

pub returns-then-n-gt-MOST_LANGUAGES : goal.returns-then-n-gt-MOST_LANGUAGES
returns-then-n-gt-MOST_LANGUAGES c = c.refuse-then-n-gt-MOST_LANGUAGES.ensures ∙ sym (number_refused _ c.if-t-ne0.false c.if-n-gt-MOST_LANGUAGES.true)

pub returns-then-bad-n : goal.returns-then-bad-n
returns-then-bad-n c =
    c.refuse-then-bad-n.ensures ∙ ap (refused_at BadLanguages) c.first_bad-bad.ensures
    ∙ sym (record_refused _ c.if-t-ne0.false c.if-n-gt-MOST_LANGUAGES.false (rw c.first_bad-bad.ensures at c.if-bad-n.true))

pub returns : goal.returns
returns c =
    sym (none_refused _ c.if-t-ne0.false c.if-n-gt-MOST_LANGUAGES.false (rw c.first_bad-bad.ensures at c.if-bad-n.false))
