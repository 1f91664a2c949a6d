-- Each return is one law of the check, in 01's order.
-- Assumes nothing.
use mathlib.Core.Path.{ap, sym, ◌∙◌}
use native.Mathlib.Omega.{arith}
use Rattle.base.specs.Causes.{refused_at}
use Rattle.base.specs.declared.refusals.Cause.TheVariants.{BadClasses}
use Rattle.classes.proofs.Laws.Check.{length_refused, number_refused, record_refused, passed, first_bad_small}
use Rattle.classes.proofs.bad_classes.Goals as goal

pub returns-then-classes-ne0 : goal.returns-then-classes-ne0
returns-then-classes-ne0 c = c.refuse.ensures ∙ sym (length_refused _ c.if-classes-ne0.true)

pub returns-then-classes-gt-MOST_CLASSES : goal.returns-then-classes-gt-MOST_CLASSES
returns-then-classes-gt-MOST_CLASSES c = c.refuse-then-classes-gt-MOST_CLASSES.ensures ∙ sym (number_refused _ c.if-classes-ne0.false c.if-classes-gt-MOST_CLASSES.true)

pub overflow_cast-first_bad : goal.overflow_cast-first_bad
overflow_cast-first_bad c =
    omega (arith, c.first_bad.ensures, first_bad_small c.args.classes.now, c.if-classes-gt-MOST_CLASSES.false)

pub returns-then-not-none_bad : goal.returns-then-not-none_bad
returns-then-not-none_bad c =
    c.refuse-then-not-none_bad.ensures ∙ ap (refused_at BadClasses) c.first_bad.ensures ∙ sym
    (record_refused _ c.if-classes-ne0.false c.if-classes-gt-MOST_CLASSES.false (sym c.none_bad.ensures ∙ c.if-not-none_bad.true))

pub returns : goal.returns
returns c = sym (passed _ c.if-classes-ne0.false c.if-classes-gt-MOST_CLASSES.false (sym c.none_bad.ensures ∙ c.if-not-none_bad.false))
