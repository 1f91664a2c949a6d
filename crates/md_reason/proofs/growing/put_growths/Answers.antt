-- The indexes that were passed and at which the numerator grew stand in the first places, and the rest is as it was. Assumes nothing.
use mathlib.Core.Path.{sym, ◌∙◌}
use native.Mathlib.Omega.{arith}
use Rattle.md_reason.proofs.Laws.Steps.{grew_is}
use Rattle.md_reason.proofs.Loops.Growing.{filling_start, filling_length, filling_few, filling_room, filling_hit, filling_miss, filling_end}
use Rattle.md_reason.proofs.growing.put_growths.Goals as goal
use Rattle.md_reason.proofs.growing.put_growths.Goals.{then-grew_at, else-grew_at}

pub start-w-requires : goal.start-w-requires
start-w-requires c = tt

pub loop-i-init : goal.loop-i-init
loop-i-init c = filling_start _ _ _ _ _ _ c.requires.3 _ c.start-w.ensures

pub watched_after-w-requires : goal.watched_after-w-requires
watched_after-w-requires c =
    (c.requires.0, omega (arith, c.loop-i-test.true, c.requires.1), c.loop-i.invariant.state)

pub grew_at-requires : goal.grew_at-requires
grew_at-requires c =
    (c.requires.2, omega (arith, c.loop-i-test.true, c.requires.1, c.requires.0.short))

pub overflow_cast-out : goal.overflow_cast-out
overflow_cast-out c =
    omega (arith, c.loop-i-test.true, c.requires.1, c.requires.0.short)

pub offset_bounds-out-k : goal.offset_bounds-out-k
offset_bounds-out-k c =
    omega (arith, filling_few _ _ _ _ _ _ c.loop-i.invariant, c.loop-i-test.true, c.requires.1, c.requires.0.short)

pub bounds-out-k : goal.bounds-out-k
bounds-out-k c =
    filling_room _ _ _ _ _ _ c.loop-i.invariant c.loop-i-test.true _ c.watched_after-w.ensures
    (sym (c.grew_at.ensures ∙ rw c.watched_after-w.ensures (grew_is _ _ _ _ _)) ∙ c.if-grew_at.true)

pub overflow_add-k : goal.overflow_add-k
overflow_add-k c =
    omega (arith, filling_few _ _ _ _ _ _ c.loop-i.invariant, c.loop-i-test.true, c.requires.1, c.requires.0.short)

pub loop-i-preserved : goal.loop-i-preserved
loop-i-preserved c =
    let grows_here = c.grew_at.ensures ∙ rw c.watched_after-w.ensures (grew_is _ _ _ _ _) in
    elim c.if-grew_at.branch [
      | then-grew_at w ↦
          rw (w.out-is, w.k-is)
          (filling_hit _ _ _ _ _ _ c.loop-i.invariant c.loop-i-test.true _ c.watched_after-w.ensures (sym grows_here ∙ w.if-grew_at.true))
      | else-grew_at w ↦
          rw (w.out-is, w.k-is)
          (filling_miss _ _ _ _ _ _ c.loop-i.invariant c.loop-i-test.true _ c.watched_after-w.ensures (sym grows_here ∙ w.if-grew_at.false))
    ]

pub shape_of-out : goal.shape_of-out
shape_of-out c = filling_length _ _ _ _ _ _ c.loop-i.invariant

pub returns : goal.returns
returns c = filling_end _ _ _ _ _ _ c.loop-i.invariant c.loop-i-test.false
