-- The invariant: no character before i is without a class. Assumes nothing.
use Prim.Native.Nat.{◌+◌}
use mathlib.Core.Path.{◌≡◌, sym, ◌∙◌}
use native.Mathlib.Omega.{arith}
use lib.ListN.{length}
use Rattle.base.proofs.Laws.First.{first_start, first_hit, first_miss, first_end}
use Rattle.md_meaning.proofs.Laws.Scan.{is_unclassed, is_classed}
use Rattle.md_second.proofs.Loops.Lists.{looked_up}
use Rattle.md_second.proofs.classed.first_classless.Goals as goal

pub loop-i-init : goal.loop-i-init
loop-i-init c = (omega arith, first_start _ _)

pub returns-in_default : goal.returns-in_default
returns-in_default c =
    let found = looked_up _ _ _ _ _ c.point_here.ensures c.look_up_in.ensures in
    sym (first_hit _ _ _ c.loop-i-test.true (is_unclassed _ _ _ (found ∙ c.in_default.is)))
    ∙ c.loop-i.invariant.1

pub loop-i-preserved : goal.loop-i-preserved
loop-i-preserved c =
    let found = looked_up _ _ _ _ _ c.point_here.ensures c.look_up_in.ensures in
    (omega arith, sym (first_miss _ _ _ c.loop-i-test.true (is_classed _ _ _ _ (found ∙ c.in-Some.is))) ∙ c.loop-i.invariant.1)

pub returns : goal.returns
returns c =
    let e : length c.args.text.now + 1 ≡ c.loop-i.i = omega (arith, c.loop-i-test.false, c.loop-i.invariant.0) in
    e ∙ sym (first_end _ _ _ (sym e)) ∙ c.loop-i.invariant.1
