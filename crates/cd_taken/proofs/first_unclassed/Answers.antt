-- The invariant: 6 is given for none of the first i characters. Assumes nothing.
use mathlib.Core.Path.{◌≡◌, sym, ◌∙◌}
use native.Mathlib.Omega.{arith}
use lib.ListN.{length}
use Rattle.base.proofs.Laws.First.{first_start, first_hit, first_miss, first_end}
use Rattle.cd_taken_meaning.specs.Unclassed.{unclassed_at, first_unclassed}
use Rattle.cd_taken.proofs.first_unclassed.Goals as goal

pub loop-i-init : goal.loop-i-init
unfolding first_unclassed
loop-i-init c = (omega arith, first_start _ _)

pub returns-then-is_unclassed : goal.returns-then-is_unclassed
unfolding unclassed_at
returns-then-is_unclassed c =
    sym (first_hit _ _ _ c.loop-i-test.true (sym c.is_unclassed.ensures ∙ c.if-is_unclassed.true)) ∙ c.loop-i.invariant.1

pub loop-i-preserved : goal.loop-i-preserved
unfolding unclassed_at
loop-i-preserved c = (
  omega (arith, c.loop-i-test.true),
  sym (first_miss _ _ _ c.loop-i-test.true (sym c.is_unclassed.ensures ∙ c.if-is_unclassed.false)) ∙ c.loop-i.invariant.1,
)

pub returns : goal.returns
returns c =
    let all : c.loop-i.i ≡ length c.args.text.now = omega (arith, c.loop-i.invariant.0, c.loop-i-test.false) in
    sym all ∙ sym (first_end _ _ _ all) ∙ c.loop-i.invariant.1
