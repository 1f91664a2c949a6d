-- The built-in table has the characters of the blocks passed. Assumes nothing.
use native.Mathlib.Omega.{arith}
use Rattle.md_rest.proofs.Loops.Whole.{passed_start, passed_more}
use Rattle.md_rest.proofs.whole.past_builtin.Goals as goal

pub loop-i-init : goal.loop-i-init
loop-i-init c = passed_start _ _ c.requires.1

pub block_end-end-requires : goal.block_end-end-requires
block_end-end-requires c = (c.loop-i-test.true, c.requires.0)

pub all_builtin-requires : goal.all_builtin-requires
all_builtin-requires c = c.block_end-end.ensures.1

pub returns-then-not-all_builtin : goal.returns-then-not-all_builtin
returns-then-not-all_builtin c = c.loop-i.invariant

pub loop-i-smaller : goal.loop-i-smaller
loop-i-smaller c = omega (arith, c.block_end-end.ensures.0, c.block_end-end.ensures.1)

pub loop-i-preserved : goal.loop-i-preserved
loop-i-preserved c =
    let at_block_end = c.block_end-end in
    passed_more _ _ _ _ _ c.loop-i.invariant c.all_builtin.ensures c.if-not-all_builtin.false
    at_block_end.ensures.0 at_block_end.ensures.1

pub returns : goal.returns
returns c = c.loop-i.invariant
