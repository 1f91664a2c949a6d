-- The scores of the language in the first i entries are added and counted (`Summing`); an f32 holds their number. Assumes nothing.
use Prim.Native.Nat.{◌^◌}
use mathlib.Core.Path.{sym, ◌∙◌}
use native.Mathlib.Omega.{arith}
use lib.Dec.{le→leb}
use lib.Ieee.{in_float}
use Rattle.cd_merge.proofs.Loops.Summing.{summing_start, summing_small, summing_one, summing_other, summing_end}
use Rattle.cd_merge.proofs.means.mean_of.Goals as goal
use Rattle.cd_merge.proofs.means.mean_of.Goals.{then-language_at-language, else-language_at-language}

pub loop-i-init : goal.loop-i-init
loop-i-init c = summing_start _ _

pub score_of-sum-requires : goal.score_of-sum-requires
score_of-sum-requires c =
    (rw c.entries-n.ensures at c.loop-i-test.true, c.requires.scored _ (rw c.entries-n.ensures at c.loop-i-test.true))

pub overflow_add-count : goal.overflow_add-count
overflow_add-count c =
    omega (arith, summing_small _ _ c.loop-i.invariant c.requires)

pub loop-i-preserved : goal.loop-i-preserved
loop-i-preserved c =
    let within = rw c.entries-n.ensures at c.loop-i-test.true in
    elim c.if-language_at-language.branch [
      | then-language_at-language w ↦
          rw (w.sum-is, w.count-is)
          (summing_one _ _ c.loop-i.invariant within (sym c.language_at.ensures ∙ w.if-language_at-language.true) _ w.score_of-sum.ensures)
      | else-language_at-language w ↦
          rw (w.sum-is, w.count-is) (summing_other _ _ c.loop-i.invariant within (λ e. w.if-language_at-language.false (c.language_at.ensures ∙ e)))
    ]

pub int_to_float-result : goal.int_to_float-result
unfolding in_float
int_to_float-result c =
    le→leb c.loop-i.count (2 ^ 24) (omega (arith, summing_small _ _ c.loop-i.invariant c.requires))

pub returns : goal.returns
returns c =
    summing_end _ _ c.loop-i.invariant (rw c.entries-n.ensures at c.loop-i-test.false)
