-- The walk has passed only records with other numbers.
-- Assumes nothing.
use native.Mathlib.Omega.{arith}
use mathlib.Core.Path.{◌≡◌, sym, ◌∙◌}
use borrow.Author.Tests.{eq-eqb, ne_eqb}
use Rattle.base.proofs.Laws.First.{first_start, first_hit, first_miss, first_end}
use Rattle.cd_languages.specs.Languages.{languages, first_record}
use Rattle.cd_languages.proofs.first_record.Goals as goal

pub loop-i-init : goal.loop-i-init
unfolding first_record
loop-i-init c = (omega arith, first_start _ _)

pub returns-then-number_at-x : goal.returns-then-number_at-x
returns-then-number_at-x c = sym (first_hit _ _ _ c.loop-i-test.true (eq-eqb _ _ (sym c.number_at.ensures ∙ c.if-number_at-x.true))) ∙ c.loop-i.invariant.1

pub loop-i-preserved : goal.loop-i-preserved
loop-i-preserved c = (omega arith, sym (first_miss _ _ _ c.loop-i-test.true (ne_eqb _ _ (rw c.number_at.ensures at c.if-number_at-x.false))) ∙ c.loop-i.invariant.1)

pub returns : goal.returns
returns c = let e : c.loop-i.i ≡ languages c.args.t.now = omega arith in sym e ∙ sym (first_end _ _ _ e) ∙ c.loop-i.invariant.1
