-- The indexes that were passed and at which the numerator grew are counted. Assumes nothing.
use mathlib.Core.Path.{◌∙◌}
use native.Mathlib.Omega.{arith}
use Rattle.md_reason.proofs.Laws.Steps.{grew_is}
use Rattle.md_reason.proofs.Loops.Growing.{counting_start, counting_few, counting_more, counting_end}
use Rattle.md_reason.proofs.growing.count_growths.Goals as goal

pub start-w-requires : goal.start-w-requires
start-w-requires c = tt

pub loop-i-init : goal.loop-i-init
loop-i-init c = counting_start _ _ _ _ _ _ c.start-w.ensures

pub watched_after-w-requires : goal.watched_after-w-requires
watched_after-w-requires c =
    (c.requires.0, omega (arith, c.loop-i-test.true, c.requires.1), c.loop-i.invariant.state)

pub grew_at-requires : goal.grew_at-requires
grew_at-requires c =
    (c.requires.2, omega (arith, c.loop-i-test.true, c.requires.1, c.requires.0.short))

pub one-count-requires : goal.one-count-requires
one-count-requires c = tt

pub overflow_add-count : goal.overflow_add-count
overflow_add-count c =
    omega (arith, c.one-count.ensures.small, counting_few _ _ _ _ _ c.loop-i.invariant, c.loop-i-test.true, c.requires.1, c.requires.0.short)

pub loop-i-preserved : goal.loop-i-preserved
loop-i-preserved c =
    counting_more _ _ _ _ _ c.loop-i.invariant c.loop-i-test.true _ c.watched_after-w.ensures _
    (c.grew_at.ensures ∙ rw c.watched_after-w.ensures (grew_is _ _ _ _ _)) _ c.one-count.ensures.is

pub returns : goal.returns
returns c = counting_end _ _ _ _ _ c.loop-i.invariant c.loop-i-test.false
