-- The first of the greatest, by its number. Assumes nothing.
use mathlib.Core.Path.{sym, ◌∙◌}
use native.Mathlib.Omega.{arith}
use Rattle.md_reason_meaning.specs.Greatest.{detector_of}
use Rattle.md_reason_meaning.proofs.Laws.Greatest.{first_few}
use Rattle.md_reason.proofs.greatest.detector_of.Goals as goal

pub returns-then-at_least_all : goal.returns-then-at_least_all
unfolding detector_of
returns-then-at_least_all c = rw (sym c.at_least_all.ensures ∙ c.if-at_least_all.true)

pub overflow_add-result : goal.overflow_add-result
overflow_add-result c = omega (arith, c.first_greatest.ensures, first_few c.args.r)

pub overflow_cast-result : goal.overflow_cast-result
overflow_cast-result c = omega (arith, c.first_greatest.ensures, first_few c.args.r)

pub returns : goal.returns
unfolding detector_of
returns c = rw (c.first_greatest.ensures, sym c.at_least_all.ensures ∙ c.if-at_least_all.false)
