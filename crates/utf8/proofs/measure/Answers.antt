-- What is left to read, with what is counted, is the reading of the whole: each turn takes one sequence, or a run of ASCII, off its front. Assumes nothing.
use mathlib.Core.Path.{sym, ◌∙◌}
use Rattle.utf8.proofs.Loops.Counting.{passed_start, passed_ascii, passed_two, passed_three, passed_four, fault_two, fault_three, fault_four, passed_end}
use Rattle.utf8.proofs.measure.Goals as goal

pub loop-i-init : goal.loop-i-init
loop-i-init c = passed_start _

pub loop-i-preserved-then-a-lt128 : goal.loop-i-preserved-then-a-lt128
loop-i-preserved-then-a-lt128 c =
    passed_ascii _ _ _ c.loop-i.invariant _ c.loop-i-test.true c.if-a-lt128.true c.past_ascii-next.ensures

pub returns-then-not-is_two : goal.returns-then-not-is_two
returns-then-not-is_two c =
    fault_two _ _ _ c.loop-i.invariant c.loop-i-test.true c.if-a-lt128.false c.if-a-lt224.true (sym c.is_two.ensures ∙ c.if-not-is_two.true)

pub loop-i-preserved-then-a-lt224 : goal.loop-i-preserved-then-a-lt224
loop-i-preserved-then-a-lt224 c =
    passed_two _ _ _ c.loop-i.invariant c.loop-i-test.true c.if-a-lt128.false c.if-a-lt224.true (sym c.is_two.ensures ∙ c.if-not-is_two.false)

pub returns-then-not-is_three : goal.returns-then-not-is_three
returns-then-not-is_three c =
    fault_three _ _ _ c.loop-i.invariant c.loop-i-test.true c.if-a-lt224.false c.if-a-lt240.true (sym c.is_three.ensures ∙ c.if-not-is_three.true)

pub loop-i-preserved-then-a-lt240 : goal.loop-i-preserved-then-a-lt240
loop-i-preserved-then-a-lt240 c =
    passed_three _ _ _ c.loop-i.invariant c.loop-i-test.true c.if-a-lt224.false c.if-a-lt240.true (sym c.is_three.ensures ∙ c.if-not-is_three.false)

pub returns-then-not-is_four : goal.returns-then-not-is_four
returns-then-not-is_four c =
    fault_four _ _ _ c.loop-i.invariant c.loop-i-test.true c.if-a-lt240.false (sym c.is_four.ensures ∙ c.if-not-is_four.true)

pub loop-i-preserved : goal.loop-i-preserved
loop-i-preserved c =
    passed_four _ _ _ c.loop-i.invariant c.loop-i-test.true c.if-a-lt240.false (sym c.is_four.ensures ∙ c.if-not-is_four.false)

pub returns : goal.returns
returns c = passed_end _ _ _ c.loop-i.invariant c.loop-i-test.false
