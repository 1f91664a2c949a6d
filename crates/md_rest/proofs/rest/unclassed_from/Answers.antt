-- The invariant: no character from `from` up to i is unclassed. Assumes nothing.
use mathlib.Core.Path.{refl}
use native.Mathlib.Omega.{arith}
use Rattle.md_rest.proofs.Loops.Rest.{rest_found, rest_more, rest_ended}
use Rattle.md_rest.proofs.rest.unclassed_from.Goals as goal

pub loop-i-init : goal.loop-i-init
loop-i-init c = (c.requires.2, refl)

pub block_end-end-requires : goal.block_end-end-requires
block_end-end-requires c =
    let at_pre = c.requires in
    (c.loop-i-test.true, at_pre.1)

pub unclassed_in-bad-requires : goal.unclassed_in-bad-requires
unclassed_in-bad-requires c =
    let at_pre = c.requires in
    (at_pre.0, omega (arith, c.block_end-end.ensures.0), c.block_end-end.ensures.1)

pub returns-then-bad-end : goal.returns-then-bad-end
returns-then-bad-end c =
    let at_loop = c.loop-i in
    rest_found _ _ _ _ at_loop.invariant.1 _ _ c.unclassed_in-bad.ensures c.block_end-end.ensures.1 c.if-bad-end.true

pub loop-i-smaller : goal.loop-i-smaller
loop-i-smaller c = omega (arith, c.block_end-end.ensures.0, c.block_end-end.ensures.1)

pub loop-i-preserved : goal.loop-i-preserved
loop-i-preserved c =
    let at_loop = c.loop-i in (
      omega (arith, c.block_end-end.ensures.1),
      rest_more _ _ _ _ at_loop.invariant.1 _ _ c.unclassed_in-bad.ensures c.block_end-end.ensures.1 c.if-bad-end.false,
    )

pub overflow_add-result : goal.overflow_add-result
overflow_add-result c =
    let at_pre = c.requires in
    omega (arith, at_pre.1)

pub returns : goal.returns
returns c = rest_ended _ _ _ _ c.loop-i.invariant.1 c.loop-i-test.false c.loop-i.invariant.0
