-- The letters before k are their own and noted. Assumes nothing.
use Rattle.class_compact_meaning.proofs.Laws.Own.{owning_start, owning_more, owning_end, owning_fails}
use mathlib.Core.Path.{sym, ◌∙◌}
use Rattle.class_compact.proofs.sound.all_own.Goals as goal

pub loop-k-init : goal.loop-k-init
loop-k-init c =
    owning_start _

pub returns-then-not-is_own : goal.returns-then-not-is_own
returns-then-not-is_own c =
    owning_fails _ _ c.loop-k-test.true (sym c.is_own.ensures.is ∙ c.if-not-is_own.true)

pub loop-k-preserved : goal.loop-k-preserved
loop-k-preserved c =
    owning_more _ _ _ c.loop-k.invariant _ _ c.loop-k-test.true c.is_own.ensures c.if-not-is_own.false

pub returns : goal.returns
returns c =
    owning_end _ _ _ c.loop-k.invariant c.loop-k-test.false
