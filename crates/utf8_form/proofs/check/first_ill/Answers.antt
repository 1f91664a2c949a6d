-- The walk has passed scalar values only. Assumes nothing.
use mathlib.Core.Path.{◌≡◌, sym, ap, ◌∙◌}
use mathlib.Core.Bool.{not}
use native.Mathlib.Omega.{arith}
use lib.ListN.{length}
use Rattle.base.proofs.Laws.First.{first_start, first_hit, first_miss, first_end}
use Rattle.utf8_write_meaning.specs.Answer.{ill_at}
use Rattle.utf8_form.proofs.check.first_ill.Goals as goal

pub loop-i-init : goal.loop-i-init
unfolding ill_at
loop-i-init c = first_start _ _

pub returns-then-not-has_form : goal.returns-then-not-has_form
returns-then-not-has_form c =
    sym (first_hit _ _ _ c.loop-i-test.true (ap not (sym c.has_form.ensures ∙ c.if-not-has_form.true))) ∙ c.loop-i.invariant

pub loop-i-preserved : goal.loop-i-preserved
loop-i-preserved c =
    sym (first_miss _ _ _ c.loop-i-test.true (ap not (sym c.has_form.ensures ∙ c.if-not-has_form.false))) ∙ c.loop-i.invariant

pub returns : goal.returns
returns c =
    let e : length c.args.text.now ≡ c.loop-i.i = omega arith in
    rw e (sym (first_end _ _ _ (omega arith)) ∙ c.loop-i.invariant)
