-- After i slots the first i words hold numbers and the others ranges still, and `count` different keys are those of the layers so far: so
-- there is room for one more. Assumes nothing.
use mathlib.Core.Path.{refl}
use native.Mathlib.Omega.{arith}
use Rattle.cd_layers.proofs.Loops.Splitting.{going_start, going_skip, going_old, going_room, going_new, going_end, going_few, going_within, going_range}
use Rattle.cd_layers.proofs.alpha_unicode_split.Goals as goal
use Rattle.cd_layers.proofs.alpha_unicode_split.Goals.{then-j-count, else-j-count}

pub loop-i-init : goal.loop-i-init
loop-i-init c = going_start _ _ _ c.requires.0 c.requires.2

pub loop-i-preserved-then-range-eq0 : goal.loop-i-preserved-then-range-eq0
loop-i-preserved-then-range-eq0 c = going_skip _ _ _ c.loop-i.invariant c.loop-i-test.true c.if-range-eq0.true

pub layer_for-j-requires : goal.layer_for-j-requires
layer_for-j-requires c =
    (c.requires.1, going_range _ _ _ c.loop-i.invariant c.loop-i-test.true, c.loop-i.invariant.small)

pub overflow_add-work : goal.overflow_add-work
overflow_add-work c =
    omega (arith, going_within _ _ _ c.loop-i.invariant c.loop-i-test.true refl c.if-range-eq0.false c.layer_for-j.ensures, going_few _ _ _ c.loop-i.invariant)

pub overflow_cast-work : goal.overflow_cast-work
overflow_cast-work c =
    record {
      fits = omega (
        arith,
        going_within _ _ _ c.loop-i.invariant c.loop-i-test.true refl c.if-range-eq0.false
            c.layer_for-j.ensures,
        going_few _ _ _ c.loop-i.invariant,
      );
    }

pub bounds-keys-count : goal.bounds-keys-count
bounds-keys-count c =
    going_room _ _ _ c.loop-i.invariant c.loop-i-test.true refl c.if-range-eq0.false c.layer_for-j.ensures c.if-j-count.true

pub loop-i-preserved : goal.loop-i-preserved
loop-i-preserved c =
    elim c.if-j-count.branch [
      | then-j-count w ↦
          rw (w.keys-is, w.count-is)
          (going_new _ _ _ c.loop-i.invariant c.loop-i-test.true refl c.if-range-eq0.false c.layer_for-j.ensures w.if-j-count.true)
      | else-j-count w ↦
          rw (w.keys-is, w.count-is)
          (going_old _ _ _ c.loop-i.invariant c.loop-i-test.true refl c.if-range-eq0.false c.layer_for-j.ensures w.if-j-count.false)
    ]

pub returns : goal.returns
returns c = going_end _ _ _ c.loop-i.invariant c.loop-i-test.false
