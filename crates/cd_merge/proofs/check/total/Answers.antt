-- The first i lengths are added (`Adding`); at most 64 of at most 63 each, they stay below 2 ^ 64. Assumes nothing.
use native.Mathlib.Omega.{arith}
use Rattle.cd_merge.proofs.Loops.Lengths.{adding_small, adding_more, adding_end}
use Rattle.cd_merge.proofs.check.total.Goals as goal

pub overflow_add-sum : goal.overflow_add-sum
overflow_add-sum c =
    omega (arith, adding_small _ c.loop-length.invariant c.requires.0 c.requires.1 c.loop-length-test.true)

pub loop-length-preserved : goal.loop-length-preserved
loop-length-preserved c = adding_more _ c.loop-length.invariant c.loop-length-test.true

pub returns : goal.returns
returns c = adding_end _ c.loop-length.invariant c.loop-length-test.false
