-- What is counted before i, and what is left from i on, is all (`Counting`).
-- Assumes nothing.
use native.Mathlib.Omega.{arith}
use Rattle.cd_alphabet.proofs.Loops.Alphabet.{counting_start, counting_more, counting_end}
use Rattle.cd_alphabet.proofs.share.Goals as goal

pub loop-i-init : goal.loop-i-init
loop-i-init c = counting_start _ _

pub overflow_add-num : goal.overflow_add-num
overflow_add-num c =
    omega (arith, c.loop-i.invariant.less, c.one-num.ensures.small, c.loop-i-test.true, c.requires.1)

pub overflow_add-den : goal.overflow_add-den
overflow_add-den c =
    omega (arith, c.loop-i.invariant.few, c.one-den.ensures.small, c.loop-i-test.true, c.requires.1)

pub loop-i-preserved : goal.loop-i-preserved
loop-i-preserved c =
    counting_more _ _ c.loop-i.invariant c.loop-i-test.true _ _
    (rw (c.holds-last.ensures, c.in_layer.ensures) at c.one-num.ensures) (rw c.holds-last.ensures at c.one-den.ensures)

pub returns : goal.returns
returns c = counting_end _ _ c.loop-i.invariant c.loop-i-test.false
