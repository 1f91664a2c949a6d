-- Each turn takes the sequence of three at i; the loop ends where none stands, or another byte leads. Assumes nothing.
use mathlib.Core.Path.{sym, ◌∙◌}
use native.Mathlib.Omega.{arith}
use Rattle.utf8_taking.proofs.Loops.Taking.{taken_none, taken_three, none_three, not_there, not_past}
use Rattle.utf8_taking.proofs.take_threes.Goals as goal

pub loop-i-init : goal.loop-i-init
loop-i-init c = let p = c.requires in taken_none _ _ _ _ (omega (arith, p.0.left))

pub shape_of-out-then-bytes-i-ne14 : goal.shape_of-out-then-bytes-i-ne14
shape_of-out-then-bytes-i-ne14 c = c.loop-i.invariant.same

pub returns-then-bytes-i-ne14 : goal.returns-then-bytes-i-ne14
returns-then-bytes-i-ne14 c =
    let p = c.requires in
    record { taken = c.loop-i.invariant; none = not_there _ _ p.0.left _ (λ e. omega (arith, e, c.if-bytes-i-ne14.true, p.1, p.2)) }

pub shape_of-out-then-not-is_three : goal.shape_of-out-then-not-is_three
shape_of-out-then-not-is_three c = c.loop-i.invariant.same

pub returns-then-not-is_three : goal.returns-then-not-is_three
returns-then-not-is_three c =
    let p = c.requires in
    record { taken = c.loop-i.invariant; none = none_three _ _ p.0.left _ p.1 p.2 (sym c.is_three.ensures ∙ c.if-not-is_three.true) }

pub three_at-requires : goal.three_at-requires
three_at-requires c =
    (taken_three _ _ _ _ _ _ _ c.loop-i.invariant c.requires.0 c.loop-i-test.true c.if-bytes-i-ne14.false
    (sym c.is_three.ensures ∙ c.if-not-is_three.false)).fits

pub bounds-out-n : goal.bounds-out-n
bounds-out-n c =
    (taken_three _ _ _ _ _ _ _ c.loop-i.invariant c.requires.0 c.loop-i-test.true c.if-bytes-i-ne14.false
    (sym c.is_three.ensures ∙ c.if-not-is_three.false)).room

pub loop-i-preserved : goal.loop-i-preserved
loop-i-preserved c =
    rw c.three_at.ensures
    (taken_three _ _ _ _ _ _ _ c.loop-i.invariant c.requires.0 c.loop-i-test.true c.if-bytes-i-ne14.false
    (sym c.is_three.ensures ∙ c.if-not-is_three.false)).next

pub shape_of-out : goal.shape_of-out
shape_of-out c = c.loop-i.invariant.same

pub returns : goal.returns
returns c =
    let p = c.requires in
    record { taken = c.loop-i.invariant; none = not_past _ _ p.0.left _ c.loop-i-test.false }
