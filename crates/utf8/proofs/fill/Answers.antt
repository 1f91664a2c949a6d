-- The first `to` places hold the text up to `from` and the rest is as it was: each turn writes the next code point, or a run of ASCII, there. Assumes nothing.
use native.Mathlib.Omega.{arith}
use Rattle.utf8.proofs.Loops.Filling.{filling_start, filling_one, filling_two, filling_three, filling_four, filling_run_room, filling_run, filling_end}
use Rattle.utf8.proofs.fill.Goals as goal

pub loop-from-init : goal.loop-from-init
loop-from-init c = filling_start _ _ c.requires.0 c.requires.1

pub offset_bounds-out-to : goal.offset_bounds-out-to
offset_bounds-out-to c =
    let s = filling_one _ _ _ _ _ c.loop-from.invariant c.loop-from-test.true c.if-a-lt128.true in omega arith

pub bounds-out-to : goal.bounds-out-to
bounds-out-to c =
    (filling_one _ _ _ _ _ c.loop-from.invariant c.loop-from-test.true c.if-a-lt128.true).room

pub overflow_add-from : goal.overflow_add-from
overflow_add-from c = omega arith

pub overflow_add-to : goal.overflow_add-to
overflow_add-to c =
    let s = filling_one _ _ _ _ _ c.loop-from.invariant c.loop-from-test.true c.if-a-lt128.true in omega arith

pub widen-requires : goal.widen-requires
widen-requires c =
    rw c.wide.ensures.is (filling_run_room _ _ _ _ _ (filling_one _ _ _ _ _ c.loop-from.invariant c.loop-from-test.true
    c.if-a-lt128.true).next _ c.past_ascii-next.ensures)

pub overflow_add-to-then-a-lt128 : goal.overflow_add-to-then-a-lt128
overflow_add-to-then-a-lt128 c =
    let f = (filling_one _ _ _ _ _ c.loop-from.invariant c.loop-from-test.true c.if-a-lt128.true).next in let r = filling_run_room _ _ _ _ _ f _
    c.past_ascii-next.ensures in omega arith

pub loop-from-smaller-then-a-lt128 : goal.loop-from-smaller-then-a-lt128
loop-from-smaller-then-a-lt128 c = omega arith

pub loop-from-preserved-then-a-lt128 : goal.loop-from-preserved-then-a-lt128
loop-from-preserved-then-a-lt128 c =
    rw (c.widen.ensures, c.wide.ensures.is)
    (filling_run _ _ _ _ _ (filling_one _ _ _ _ _ c.loop-from.invariant c.loop-from-test.true c.if-a-lt128.true).next _
    c.past_ascii-next.ensures)

pub two_at-requires : goal.two_at-requires
two_at-requires c =
    (filling_two _ _ _ _ _ c.loop-from.invariant c.loop-from-test.true c.if-a-lt128.false c.if-a-lt224.true).fits

pub offset_bounds-out-to-then-a-lt224 : goal.offset_bounds-out-to-then-a-lt224
offset_bounds-out-to-then-a-lt224 c =
    let s = filling_two _ _ _ _ _ c.loop-from.invariant c.loop-from-test.true c.if-a-lt128.false c.if-a-lt224.true in omega arith

pub bounds-out-to-then-a-lt224 : goal.bounds-out-to-then-a-lt224
bounds-out-to-then-a-lt224 c =
    (filling_two _ _ _ _ _ c.loop-from.invariant c.loop-from-test.true c.if-a-lt128.false c.if-a-lt224.true).room

pub overflow_add-from-then-a-lt224 : goal.overflow_add-from-then-a-lt224
overflow_add-from-then-a-lt224 c =
    let s = filling_two _ _ _ _ _ c.loop-from.invariant c.loop-from-test.true c.if-a-lt128.false c.if-a-lt224.true in omega arith

pub overflow_add-to-then-a-lt224 : goal.overflow_add-to-then-a-lt224
overflow_add-to-then-a-lt224 c =
    let s = filling_two _ _ _ _ _ c.loop-from.invariant c.loop-from-test.true c.if-a-lt128.false c.if-a-lt224.true in omega arith

pub loop-from-smaller-then-a-lt224 : goal.loop-from-smaller-then-a-lt224
loop-from-smaller-then-a-lt224 c =
    let s = filling_two _ _ _ _ _ c.loop-from.invariant c.loop-from-test.true c.if-a-lt128.false c.if-a-lt224.true in omega arith

pub loop-from-preserved-then-a-lt224 : goal.loop-from-preserved-then-a-lt224
loop-from-preserved-then-a-lt224 c =
    rw c.two_at.ensures (filling_two _ _ _ _ _ c.loop-from.invariant c.loop-from-test.true c.if-a-lt128.false c.if-a-lt224.true).next

pub three_at-requires : goal.three_at-requires
three_at-requires c =
    (filling_three _ _ _ _ _ c.loop-from.invariant c.loop-from-test.true c.if-a-lt224.false c.if-a-lt240.true).fits

pub offset_bounds-out-to-then-a-lt240 : goal.offset_bounds-out-to-then-a-lt240
offset_bounds-out-to-then-a-lt240 c =
    let s = filling_three _ _ _ _ _ c.loop-from.invariant c.loop-from-test.true c.if-a-lt224.false c.if-a-lt240.true in omega arith

pub bounds-out-to-then-a-lt240 : goal.bounds-out-to-then-a-lt240
bounds-out-to-then-a-lt240 c =
    (filling_three _ _ _ _ _ c.loop-from.invariant c.loop-from-test.true c.if-a-lt224.false c.if-a-lt240.true).room

pub overflow_add-from-then-a-lt240 : goal.overflow_add-from-then-a-lt240
overflow_add-from-then-a-lt240 c =
    let s = filling_three _ _ _ _ _ c.loop-from.invariant c.loop-from-test.true c.if-a-lt224.false c.if-a-lt240.true in omega arith

pub overflow_add-to-then-a-lt240 : goal.overflow_add-to-then-a-lt240
overflow_add-to-then-a-lt240 c =
    let s = filling_three _ _ _ _ _ c.loop-from.invariant c.loop-from-test.true c.if-a-lt224.false c.if-a-lt240.true in omega arith

pub loop-from-smaller-then-a-lt240 : goal.loop-from-smaller-then-a-lt240
loop-from-smaller-then-a-lt240 c =
    let s = filling_three _ _ _ _ _ c.loop-from.invariant c.loop-from-test.true c.if-a-lt224.false c.if-a-lt240.true in omega arith

pub loop-from-preserved-then-a-lt240 : goal.loop-from-preserved-then-a-lt240
loop-from-preserved-then-a-lt240 c =
    rw c.three_at.ensures (filling_three _ _ _ _ _ c.loop-from.invariant c.loop-from-test.true c.if-a-lt224.false c.if-a-lt240.true).next

pub four_at-requires : goal.four_at-requires
four_at-requires c =
    (filling_four _ _ _ _ _ c.loop-from.invariant c.loop-from-test.true c.if-a-lt240.false).fits

pub offset_bounds-out-to-else-a-lt240 : goal.offset_bounds-out-to-else-a-lt240
offset_bounds-out-to-else-a-lt240 c =
    let s = filling_four _ _ _ _ _ c.loop-from.invariant c.loop-from-test.true c.if-a-lt240.false in omega arith

pub bounds-out-to-else-a-lt240 : goal.bounds-out-to-else-a-lt240
bounds-out-to-else-a-lt240 c =
    (filling_four _ _ _ _ _ c.loop-from.invariant c.loop-from-test.true c.if-a-lt240.false).room

pub overflow_add-from-else-a-lt240 : goal.overflow_add-from-else-a-lt240
overflow_add-from-else-a-lt240 c =
    let s = filling_four _ _ _ _ _ c.loop-from.invariant c.loop-from-test.true c.if-a-lt240.false in omega arith

pub overflow_add-to-else-a-lt240 : goal.overflow_add-to-else-a-lt240
overflow_add-to-else-a-lt240 c =
    let s = filling_four _ _ _ _ _ c.loop-from.invariant c.loop-from-test.true c.if-a-lt240.false in omega arith

pub loop-from-smaller : goal.loop-from-smaller
loop-from-smaller c =
    let s = filling_four _ _ _ _ _ c.loop-from.invariant c.loop-from-test.true c.if-a-lt240.false in omega arith

pub loop-from-preserved : goal.loop-from-preserved
loop-from-preserved c =
    rw c.four_at.ensures (filling_four _ _ _ _ _ c.loop-from.invariant c.loop-from-test.true c.if-a-lt240.false).next

pub shape_of-out : goal.shape_of-out
shape_of-out c = c.loop-from.invariant.same

pub returns : goal.returns
returns c = filling_end _ _ _ _ _ c.loop-from.invariant c.loop-from-test.false
