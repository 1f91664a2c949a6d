-- The records before `low` end before p, those from `low + size` on do not.
-- Assumes nothing.
use native.Mathlib.Omega.{arith}
use Rattle.class_records.proofs.Loops.Halving.{halving_inside, halving_right, halving_left, halving_end, sized_start, sized_right, sized_left}
use Rattle.class_records.proofs.Laws.Records.{table_number}
use Rattle.class_records.proofs.search.first_ending.Goals as goal

pub loop-size-init : goal.loop-size-init
loop-size-init c = sized_start _ _

pub overflow_add-low : goal.overflow_add-low
overflow_add-low c =
    let inv = c.loop-size.invariant in
    omega (arith, inv.within, table_number _ c.requires, c.loop-size-test.true)

pub overflow_sub-low : goal.overflow_sub-low
overflow_sub-low c = omega (arith, c.loop-size-test.true)

pub last_of-requires : goal.last_of-requires
last_of-requires c =
    let test = c.loop-size-test.true in
    halving_inside _ c.requires _ c.loop-size.invariant (omega (arith, test)) (omega (arith, test))

pub overflow_add-low-then-last_of-p : goal.overflow_add-low-then-last_of-p
overflow_add-low-then-last_of-p c =
    let inv = c.loop-size.invariant in
    omega (arith, inv.within, table_number _ c.requires, c.loop-size-test.true)

pub loop-size-preserved-then-last_of-p : goal.loop-size-preserved-then-last_of-p
loop-size-preserved-then-last_of-p c =
    let test = c.loop-size-test.true in
    sized_right _ c.requires _ c.loop-size.invariant _ _ (omega (arith, test)) (omega (arith, test)) (omega (arith, test))
    (rw c.last_of.ensures at c.if-last_of-p.true)

pub loop-size-preserved : goal.loop-size-preserved
loop-size-preserved c =
    let test = c.loop-size-test.true in
    sized_left _ c.requires _ c.loop-size.invariant _ _ (omega (arith, test)) (omega (arith, test)) (omega (arith, test))
    (rw c.last_of.ensures at c.if-last_of-p.false)

pub returns-then-size-eq0 : goal.returns-then-size-eq0
returns-then-size-eq0 c =
    halving_end _ c.requires _ c.loop-size.invariant (omega (arith, c.if-size-eq0.true))

pub last_of-requires-2 : goal.last_of-requires-2
last_of-requires-2 c =
    halving_inside _ c.requires _ c.loop-size.invariant (omega arith) (omega (arith, c.if-size-eq0.false))

pub overflow_add-result : goal.overflow_add-result
overflow_add-result c =
    let inv = c.loop-size.invariant in
    omega (arith, inv.within, table_number _ c.requires, c.if-size-eq0.false)

pub returns-then-last_of-p-2 : goal.returns-then-last_of-p-2
returns-then-last_of-p-2 c =
    let pre = c.requires in
    halving_end _ pre _
    (halving_right _ pre _ c.loop-size.invariant (omega arith) (omega (arith, c.if-size-eq0.false)) (rw c.last_of-2.ensures at c.if-last_of-p-2.true))
    (omega (arith, c.loop-size-test.false))

pub returns : goal.returns
returns c =
    let pre = c.requires in
    halving_end _ pre _
    (halving_left _ pre _ c.loop-size.invariant (omega arith) (omega (arith, c.if-size-eq0.false)) (rw c.last_of-2.ensures at c.if-last_of-p-2.false))
    (omega arith)
