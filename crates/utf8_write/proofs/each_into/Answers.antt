-- The places from `at` up to `to` hold the encodings of the code points passed, and the rest is as it was: each turn writes the next code point
-- there. Assumes nothing.
use native.Mathlib.Omega.{arith}
use Rattle.utf8_write.proofs.Loops.Writing.{writing_start, writing_count, writing_end}
use Rattle.utf8_write.proofs.Loops.Writing.{writing_one, writing_byte, writing_two, writing_three, writing_four, writing_top}
use Rattle.utf8_write.proofs.each_into.Goals as goal
use Rattle.utf8_write.proofs.each_into.Goals.{then-c-lt128, else-c-lt128+then-c-lt2048}
use Rattle.utf8_write.proofs.each_into.Goals.{else-c-lt128+else-c-lt2048+then-c-lt65536, else-c-lt128+else-c-lt2048+else-c-lt65536}

pub loop-c-init : goal.loop-c-init
loop-c-init c = writing_start _ _ _ c.requires.1

pub bounds-out-to : goal.bounds-out-to
bounds-out-to c =
    let s = writing_one _ _ _ _ _ _ c.loop-c.invariant c.loop-c-test.true c.if-c-lt128.true in omega (arith, s.room)

pub overflow_add-to : goal.overflow_add-to
overflow_add-to c =
    let s = writing_one _ _ _ _ _ _ c.loop-c.invariant c.loop-c-test.true c.if-c-lt128.true in omega (arith, s.room)

pub two_into-requires : goal.two_into-requires
two_into-requires c =
    (c.if-c-lt128.false, c.if-c-lt2048.true, (writing_two _ _ _ _ _ _ c.loop-c.invariant c.loop-c-test.true c.if-c-lt128.false c.if-c-lt2048.true).room)

pub overflow_add-to-then-c-lt2048 : goal.overflow_add-to-then-c-lt2048
overflow_add-to-then-c-lt2048 c =
    let s = writing_two _ _ _ _ _ _ c.loop-c.invariant c.loop-c-test.true c.if-c-lt128.false c.if-c-lt2048.true in
    omega (arith, s.room, c.loop-c.invariant.same)

pub three_into-requires : goal.three_into-requires
three_into-requires c =
    (c.if-c-lt2048.false, c.if-c-lt65536.true, (writing_three _ _ _ _ _ _ c.loop-c.invariant c.loop-c-test.true c.if-c-lt2048.false c.if-c-lt65536.true).room)

pub overflow_add-to-then-c-lt65536 : goal.overflow_add-to-then-c-lt65536
overflow_add-to-then-c-lt65536 c =
    let s = writing_three _ _ _ _ _ _ c.loop-c.invariant c.loop-c-test.true c.if-c-lt2048.false c.if-c-lt65536.true in
    omega (arith, s.room, c.loop-c.invariant.same)

pub four_into-requires : goal.four_into-requires
four_into-requires c =
    let top = writing_top _ _ _ _ _ _ c.loop-c.invariant c.loop-c-test.true c.requires.0 in
    (c.if-c-lt65536.false, top, (writing_four _ _ _ _ _ _ c.loop-c.invariant c.loop-c-test.true c.if-c-lt65536.false).room)

pub overflow_add-to-else-c-lt65536 : goal.overflow_add-to-else-c-lt65536
overflow_add-to-else-c-lt65536 c =
    let s = writing_four _ _ _ _ _ _ c.loop-c.invariant c.loop-c-test.true c.if-c-lt65536.false in
    omega (arith, s.room, c.loop-c.invariant.same)

pub loop-c-preserved : goal.loop-c-preserved
loop-c-preserved c =
    let inv = c.loop-c.invariant in
    let more = c.loop-c-test.true in
    elim c.if-c-lt128.branch [
      | then-c-lt128 w ↦
          rw (w.to-is, w.out-is, w.as_byte.ensures) (writing_byte _ _ _ _ _ _ inv more w.if-c-lt128.true)
      | else-c-lt128+then-c-lt2048 w ↦
          rw (w.to-is, w.out-is, w.two_into.ensures) (writing_two _ _ _ _ _ _ inv more w.if-c-lt128.false w.if-c-lt2048.true).next
      | else-c-lt128+else-c-lt2048+then-c-lt65536 w ↦
          rw (w.to-is, w.out-is, w.three_into.ensures) (writing_three _ _ _ _ _ _ inv more w.if-c-lt2048.false w.if-c-lt65536.true).next
      | else-c-lt128+else-c-lt2048+else-c-lt65536 w ↦
          rw (w.to-is, w.out-is, w.four_into.ensures) (writing_four _ _ _ _ _ _ inv more w.if-c-lt65536.false).next
    ]

pub returns : goal.returns
returns c =
    record {
      value = writing_count _ _ _ _ _ _ c.loop-c.invariant c.loop-c-test.false;
      out_after = writing_end _ _ _ _ _ _ c.loop-c.invariant c.loop-c-test.false;
    }
