-- The walk has passed only numbers that are in the table.
-- Assumes nothing.
use native.Mathlib.Omega.{arith}
use mathlib.Core.Bool.{not}
use lib.ListN.{length}
use mathlib.Core.Path.{◌≡◌, sym, ap, ◌∙◌}
use Rattle.base.proofs.Laws.First.{first_start, first_hit, first_miss, first_end}
use Rattle.cd_languages.specs.Included.{first_missing}
use Rattle.cd_languages.proofs.included.first_missing.Goals as goal

pub loop-i-init : goal.loop-i-init
unfolding first_missing
loop-i-init c = (omega arith, first_start _ _)

pub returns-then-not-in_table : goal.returns-then-not-in_table
returns-then-not-in_table c =
    sym (first_hit _ _ _ c.loop-i-test.true (ap not (sym c.in_table.ensures ∙ c.if-not-in_table.true))) ∙ c.loop-i.invariant.1

pub loop-i-preserved : goal.loop-i-preserved
loop-i-preserved c =
    (omega arith, sym (first_miss _ _ _ c.loop-i-test.true (ap not (sym c.in_table.ensures ∙ c.if-not-in_table.false))) ∙ c.loop-i.invariant.1)

pub returns : goal.returns
returns c = let e : c.loop-i.i ≡ length c.args.included.now = omega arith in sym e ∙ sym (first_end _ _ _ e) ∙ c.loop-i.invariant.1
