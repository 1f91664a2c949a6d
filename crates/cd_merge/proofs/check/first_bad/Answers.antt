-- The walk has passed only scores from 0 to 1. Assumes nothing.
use mathlib.Core.Path.{◌≡◌, sym, ap, ◌∙◌}
use mathlib.Core.Bool.{not}
use native.Mathlib.Omega.{arith}
use Rattle.base.proofs.Laws.First.{first_start, first_hit, first_miss, first_end}
use Rattle.cd_merge_meaning.specs.Entries.{entries}
use Rattle.cd_merge_meaning.specs.Answer.{first_bad}
use Rattle.cd_merge.proofs.check.first_bad.Goals as goal

pub loop-i-init : goal.loop-i-init
unfolding first_bad
loop-i-init c = (omega arith, first_start _ _)

pub returns-then-not-is_score : goal.returns-then-not-is_score
returns-then-not-is_score c =
    sym (first_hit _ _ _ (rw c.entries-n.ensures at c.loop-i-test.true) (ap not (sym c.is_score.ensures ∙ c.if-not-is_score.true)))
    ∙ c.loop-i.invariant.1

pub loop-i-preserved : goal.loop-i-preserved
loop-i-preserved c = (
  omega (arith, c.entries-n.ensures, c.loop-i-test.true),
  sym (first_miss _ _ _ (rw c.entries-n.ensures at c.loop-i-test.true) (ap not (sym c.is_score.ensures ∙ c.if-not-is_score.false))) ∙ c.loop-i.invariant.1,
)

pub returns : goal.returns
returns c =
    let e : c.loop-i.i ≡ entries c.args.list.now = omega (arith, c.entries-n.ensures, c.loop-i-test.false, c.loop-i.invariant.0) in
    c.entries-n.ensures ∙ sym e ∙ sym (first_end _ _ _ e) ∙ c.loop-i.invariant.1
