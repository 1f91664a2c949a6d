-- The walk for the first that is at least each. Assumes nothing.
use mathlib.Core.Path.{◌≡◌, sym, ◌∙◌}
use native.Mathlib.Omega.{arith}
use Rattle.base.proofs.Laws.First.{first_start, first_hit, first_miss, first_end}
use Rattle.ratio.specs.Eight.{DETECTORS}
use Rattle.md_reason_meaning.specs.Greatest.{ratio_at, at_least_all, first_greatest}
use Rattle.md_reason_meaning.proofs.Laws.Greatest.{ratio_read}
use Rattle.md_reason.proofs.greatest.first_greatest.Goals as goal

pub loop-k-init : goal.loop-k-init
unfolding first_greatest
loop-k-init c = (omega arith, first_start (λ j. at_least_all (ratio_at c.args.r j) c.args.r) DETECTORS)

pub at_least_all-requires : goal.at_least_all-requires
at_least_all-requires c = tt

pub returns-then-at_least_all : goal.returns-then-at_least_all
returns-then-at_least_all c =
    sym (first_hit _ _ _ c.loop-k-test.true (rw (ratio_read _ _ c.loop-k-test.true) at (sym c.at_least_all.ensures ∙ c.if-at_least_all.true)))
    ∙ c.loop-k.invariant.1

pub loop-k-preserved : goal.loop-k-preserved
loop-k-preserved c = (
  omega arith,
  sym (first_miss _ _ _ c.loop-k-test.true (rw (ratio_read _ _ c.loop-k-test.true) at (sym c.at_least_all.ensures ∙ c.if-at_least_all.false)))
      ∙ c.loop-k.invariant.1,
)

pub returns : goal.returns
returns c =
    let e : c.loop-k.k ≡ DETECTORS = omega (arith, c.loop-k.invariant.0, c.loop-k-test.false) in
    sym e ∙ sym (first_end _ _ _ e) ∙ c.loop-k.invariant.1
