-- `good` says whether the slots below k are good.
-- Assumes nothing.
use native.Mathlib.Omega.{arith}
use mathlib.Core.Path.{◌≡◌, refl, ap, ◌∙◌}
use Rattle.base.specs.Tests.{scalar}
use Rattle.base.specs.First.{each}
use Rattle.base.proofs.Laws.First.{each_more}
use Rattle.cd_languages.specs.Languages.{slot_good}
use Rattle.cd_languages.proofs.Laws.Languages.{slot_used}
use Rattle.cd_languages.proofs.used_good.Goals as goal

pub loop-k-init : goal.loop-k-init
unfolding each
loop-k-init c = (omega arith, refl)

pub loop-k-preserved : goal.loop-k-preserved
loop-k-preserved c = (
  omega (arith, c.loop-k-test.true),
  rw (
    c.loop-k.invariant.1,
    c.is_scalar-good.ensures ∙ ap scalar c.slot_at.ensures ∙ slot_used _ _ _ (rw c.requires.1 at c.loop-k-test.true),
  )
      (each_more (slot_good _ _) _),
)

pub returns : goal.returns
returns c = let e : c.loop-k.k ≡ c.args.n = omega (arith, c.loop-k.invariant.0, c.loop-k-test.false) in rw e at c.loop-k.invariant.1
