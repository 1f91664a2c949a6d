-- The first `to` places hold the encodings of the first `from` code points, and the rest is as it was: each turn writes the whole eights of ASCII that come
-- next there, and then a part one by one. Assumes nothing.
use native.Mathlib.Omega.{arith}
use Rattle.utf8_write_meaning.proofs.Laws.Encoded.{scalars_part}
use Rattle.utf8_write.proofs.Loops.Writing.{writing_start, writing_end, turn_less}
use Rattle.utf8_write.proofs.Loops.Writing.{run_room, run_ascii, writing_run, part_room, writing_part}
use Rattle.utf8_write.proofs.encode_into.Goals as goal

pub loop-from-init : goal.loop-from-init
loop-from-init c = writing_start _ _ _ (omega (arith, c.requires.1))

pub narrow-requires : goal.narrow-requires
narrow-requires c =
    let w = c.loop-from.invariant in
    (run_room _ _ _ _ _ _ w _ c.past_eights-next.ensures, run_ascii _ _ _ _ _ _ w _ c.past_eights-next.ensures)

pub overflow_add-to : goal.overflow_add-to
overflow_add-to c =
    let w = c.loop-from.invariant in
    let r = writing_run _ _ _ _ _ _ w _ c.past_eights-next.ensures in
    omega (arith, r.room)

pub each_into-to-requires : goal.each_into-to-requires
each_into-to-requires c =
    let singles = c.singles_end-end.ensures in
    let w = writing_run _ _ _ _ _ _ c.loop-from.invariant _ c.past_eights-next.ensures in (
      scalars_part _ _ _ singles.here singles.inside c.requires.0,
      rw c.narrow.ensures (part_room _ _ _ _ _ _ w _ singles),
    )

pub loop-from-smaller : goal.loop-from-smaller
loop-from-smaller c =
    turn_less _ _ _ _ c.loop-from-test.true c.past_eights-next.ensures.here c.singles_end-end.ensures

pub loop-from-preserved : goal.loop-from-preserved
loop-from-preserved c =
    let singles = c.singles_end-end.ensures in
    let w = writing_run _ _ _ _ _ _ c.loop-from.invariant _ c.past_eights-next.ensures in
    let each = c.each_into-to.ensures in
    rw (each.value, each.out_after, c.narrow.ensures) (writing_part _ _ _ _ _ _ w _ singles)

pub shape_of-out : goal.shape_of-out
shape_of-out c = c.loop-from.invariant.same

pub returns : goal.returns
returns c = writing_end _ _ _ _ _ _ c.loop-from.invariant c.loop-from-test.false
