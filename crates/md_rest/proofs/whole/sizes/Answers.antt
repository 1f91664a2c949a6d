-- The sum so far is that of the records passed, which is no more than the code points before their end. Assumes nothing.
use native.Mathlib.Omega.{arith}
use Rattle.md_rest.proofs.Laws.Whole.{lies}
use Rattle.md_rest.proofs.Loops.Whole.{sizes_start, sizes_more, sizes_small}
use Rattle.md_rest.proofs.whole.sizes.Goals as goal

pub loop-i-init : goal.loop-i-init
loop-i-init c = (omega arith, sizes_start _)

pub overflow_add-sum : goal.overflow_add-sum
overflow_add-sum c =
    let at_loop = c.loop-i in
    let l = lies c.args.classes.now c.requires at_loop.i c.loop-i-test.true in
    omega (arith, c.last_of.ensures, l.most)

pub overflow_sub-sum : goal.overflow_sub-sum
overflow_sub-sum c =
    let at_loop = c.loop-i in
    let l = lies c.args.classes.now c.requires at_loop.i c.loop-i-test.true in
    omega (arith, c.first_of.ensures, c.last_of.ensures, l.up)

pub overflow_add-sum-in-loop-i : goal.overflow_add-sum-in-loop-i
overflow_add-sum-in-loop-i c =
    let at_loop = c.loop-i in
    let h = c.loop-i-test.true in
    let l = lies c.args.classes.now c.requires at_loop.i h in
    let small = sizes_small c.args.classes.now c.requires at_loop.i at_loop.invariant.0 in
    omega (arith, c.first_of.ensures, c.last_of.ensures, l.most, small, at_loop.invariant.1)

pub loop-i-preserved : goal.loop-i-preserved
loop-i-preserved c =
    let at_loop = c.loop-i in (
      omega (arith, c.loop-i-test.true),
      rw (c.first_of.ensures, c.last_of.ensures, at_loop.invariant.1) (sizes_more _ _),
    )
