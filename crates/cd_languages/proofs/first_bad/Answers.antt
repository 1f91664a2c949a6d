-- The walk has passed only good records.
-- Assumes nothing.
use native.Mathlib.Omega.{arith}
use mathlib.Core.Bool.{not}
use mathlib.Core.Path.{◌≡◌, sym, ap, ◌∙◌}
use Rattle.base.proofs.Laws.First.{first_start, first_hit, first_miss, first_end}
use Rattle.cd_languages.specs.Languages.{languages, first_bad}
use Rattle.cd_languages.proofs.first_bad.Goals as goal

pub loop-i-init : goal.loop-i-init
unfolding first_bad
loop-i-init c = (omega arith, first_start _ _)

pub returns-then-not-record_good : goal.returns-then-not-record_good
returns-then-not-record_good c = sym (first_hit _ _ _ c.loop-i-test.true (ap not (sym c.record_good.ensures ∙ c.if-not-record_good.true))) ∙ c.loop-i.invariant.1

pub loop-i-preserved : goal.loop-i-preserved
loop-i-preserved c = (omega arith, sym (first_miss _ _ _ c.loop-i-test.true (ap not (sym c.record_good.ensures ∙ c.if-not-record_good.false))) ∙ c.loop-i.invariant.1)

pub returns : goal.returns
returns c = let e : c.loop-i.i ≡ languages c.args.t.now = omega arith in sym e ∙ sym (first_end _ _ _ e) ∙ c.loop-i.invariant.1
