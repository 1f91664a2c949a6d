-- What is taken is the text up to `from`: each turn takes what stands there, and where nothing does the text ends. Assumes nothing.
use native.Mathlib.Omega.{arith}
use Rattle.utf8_taking.proofs.Loops.Taking.{taken_none, taken_on, taken_join, room_left, taken_stop, taken_end}
use Rattle.utf8_taking.proofs.take_text.Goals as goal

pub loop-from-init : goal.loop-from-init
loop-from-init c = taken_none _ _ _ _ (omega arith)

pub take_some-r-requires : goal.take_some-r-requires
take_some-r-requires c =
    room_left _ _ _ _ _ c.loop-from.invariant c.requires c.loop-from-test.true

pub shape_of-out-then-r-from : goal.shape_of-out-then-r-from
shape_of-out-then-r-from c =
    (taken_join _ _ _ _ _ _ _ c.loop-from.invariant _ _ _ c.take_some-r.ensures.taken).same

pub returns-then-r-from : goal.returns-then-r-from
returns-then-r-from c =
    let told = taken_stop _ _ _ _ _ c.loop-from.invariant _ _ _ c.take_some-r.ensures c.if-r-from.true c.loop-from-test.true in
    record { value = told.0; out_after = told.1 }

pub loop-from-smaller : goal.loop-from-smaller
loop-from-smaller c =
    let h = taken_on _ _ _ _ _ _ _ c.take_some-r.ensures.taken in
    omega (arith, h, c.if-r-from.false, c.take_some-r.ensures.taken.inside)

pub loop-from-preserved : goal.loop-from-preserved
loop-from-preserved c =
    taken_join _ _ _ _ _ _ _ c.loop-from.invariant _ _ _ c.take_some-r.ensures.taken

pub shape_of-out : goal.shape_of-out
shape_of-out c = c.loop-from.invariant.same

pub returns : goal.returns
returns c =
    let told = taken_end _ _ _ _ _ c.loop-from.invariant c.loop-from-test.false in
    record { value = told.0; out_after = told.1 }
