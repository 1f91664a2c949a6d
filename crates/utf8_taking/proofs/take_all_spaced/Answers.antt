-- Each turn goes on where the one before it ended; the loop ends where a turn takes nothing, or too few bytes are left. Assumes nothing.
use native.Mathlib.Omega.{arith}
use Rattle.utf8_taking.proofs.Loops.Taking.{taken_none, taken_on, taken_join, room_on}
use Rattle.utf8_taking.proofs.take_all_spaced.Goals as goal

pub loop-i-init : goal.loop-i-init
loop-i-init c = taken_none _ _ _ _ c.requires.inside

pub overflow_sub-bytes : goal.overflow_sub-bytes
overflow_sub-bytes c = c.loop-i.invariant.inside

pub take_spaced-r-requires : goal.take_spaced-r-requires
take_spaced-r-requires c =
    let h = c.loop-i-test.true in
    (room_on _ _ _ _ _ _ _ c.requires c.loop-i.invariant (omega (arith, h)), omega (arith, h))

pub shape_of-out-then-r-i : goal.shape_of-out-then-r-i
shape_of-out-then-r-i c =
    (taken_join _ _ _ _ _ _ _ c.loop-i.invariant _ _ _ c.take_spaced-r.ensures).same

pub returns-then-r-i : goal.returns-then-r-i
returns-then-r-i c =
    taken_join _ _ _ _ _ _ _ c.loop-i.invariant _ _ _ c.take_spaced-r.ensures

pub loop-i-smaller : goal.loop-i-smaller
loop-i-smaller c =
    let r = c.take_spaced-r.ensures in
    let h = taken_on _ _ _ _ _ _ _ r in
    omega (arith, h, c.if-r-i.false, r.inside)

pub loop-i-preserved : goal.loop-i-preserved
loop-i-preserved c =
    taken_join _ _ _ _ _ _ _ c.loop-i.invariant _ _ _ c.take_spaced-r.ensures

pub shape_of-out : goal.shape_of-out
shape_of-out c = c.loop-i.invariant.same

pub returns : goal.returns
returns c = c.loop-i.invariant
