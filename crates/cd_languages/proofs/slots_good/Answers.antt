-- `good` says whether the slots below k are good.
-- Assumes nothing.
use native.Mathlib.Omega.{arith}
use mathlib.Core.Path.{◌≡◌, ap, ◌∙◌}
use lib.Dec.{eqb}
use Rattle.base.specs.Limits.{LANGUAGE_LETTERS}
use Rattle.base.specs.First.{each}
use Rattle.base.proofs.Laws.First.{each_more}
use Rattle.cd_languages.specs.Languages.{slot_good, good_slots}
use Rattle.cd_languages.proofs.Laws.Languages.{slot_unused}
use Rattle.cd_languages.proofs.slots_good.Goals as goal

pub loop-k-init : goal.loop-k-init
loop-k-init c = let asked = c.requires in (omega (arith, asked.1), asked.2, asked.3)

pub loop-k-preserved : goal.loop-k-preserved
loop-k-preserved c =
    let inv = c.loop-k.invariant in (
      omega (arith, inv.0),
      omega (arith, c.loop-k-test.true),
      rw (inv.2, ap (λ x. eqb x 0) c.slot_at.ensures ∙ slot_unused _ _ _ inv.0)
          (each_more (slot_good _ _) _),
    )

pub returns : goal.returns
unfolding good_slots
returns c =
    let inv = c.loop-k.invariant in
    let e : c.loop-k.k ≡ LANGUAGE_LETTERS = omega (arith, inv.1, c.loop-k-test.false) in
    inv.2 ∙ ap (each (slot_good _ _)) e
