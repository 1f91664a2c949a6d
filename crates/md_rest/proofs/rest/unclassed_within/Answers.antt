-- The characters passed have a class (`Walking`). Assumes nothing.
use native.Mathlib.Omega.{arith}
use Rattle.md_rest.proofs.Loops.Rest.{walking_start, walking_stuck, walking_more, walking_end}
use Rattle.md_rest.proofs.rest.unclassed_within.Goals as goal

pub loop-i-init : goal.loop-i-init
loop-i-init c = walking_start _ _ _ _ c.requires.1

pub past_classed-next-requires : goal.past_classed-next-requires
past_classed-next-requires c =
    let at_pre = c.requires in
    (at_pre.0, c.loop-i-test.true, at_pre.2)

pub returns-then-next-i : goal.returns-then-next-i
returns-then-next-i c =
    let at_loop = c.loop-i in
    walking_stuck _ _ _ _ _ _ at_loop.invariant c.past_classed-next.ensures c.if-next-i.true

pub loop-i-smaller : goal.loop-i-smaller
loop-i-smaller c = omega (arith, c.past_classed-next.ensures.begins, c.past_classed-next.ensures.ends, c.if-next-i.false, c.loop-i-test.true)

pub loop-i-preserved : goal.loop-i-preserved
loop-i-preserved c =
    let at_loop = c.loop-i in
    walking_more _ _ _ _ _ _ at_loop.invariant c.past_classed-next.ensures

pub returns : goal.returns
returns c = walking_end _ _ _ _ _ c.loop-i.invariant c.loop-i-test.false
