-- After each byte the ends up to it are counted. Assumes nothing.
use native.Mathlib.Omega.{arith}
use Rattle.md_lines.proofs.Loops.Counting.{counting_start, counting_more, counting_few, counting_end, byte_bump}
use Rattle.md_lines.proofs.split.ends_in_block.Goals as goal

pub loop-b-init : goal.loop-b-init
loop-b-init c = counting_start _

pub overflow_add-n : goal.overflow_add-n
overflow_add-n c =
    let small = byte_bump _ _ c.from-n.ensures in
    omega (arith, small.1, c.requires, counting_few _ _ _ c.loop-b.invariant)

pub loop-b-preserved : goal.loop-b-preserved
loop-b-preserved c = counting_more _ _ _ c.loop-b.invariant _ c.loop-b-test.true (byte_bump _ _ c.from-n.ensures).0

pub returns : goal.returns
returns c = counting_end _ _ _ c.loop-b.invariant c.loop-b-test.false
