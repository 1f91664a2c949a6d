-- The bytes of the first i code points are counted (`Counting`). Assumes nothing.
use native.Mathlib.Omega.{arith}
use Rattle.utf8_form.proofs.Loops.Counting.{counting_start, counting_more, counting_end}
use Rattle.utf8_form.proofs.check.needed.Goals as goal

pub loop-c-init : goal.loop-c-init
loop-c-init c = counting_start _

pub overflow_add-n : goal.overflow_add-n
overflow_add-n c =
    omega (arith, c.form_size-n.ensures.small, c.loop-c.invariant.few, c.requires)

pub loop-c-preserved : goal.loop-c-preserved
loop-c-preserved c = counting_more _ c.loop-c.invariant c.loop-c-test.true c.form_size-n.ensures

pub returns : goal.returns
returns c = counting_end _ c.loop-c.invariant c.loop-c-test.false
