-- More than 64 rankings, then a length over 63, then the sum: each return is one law of the definition. Assumes nothing.
use mathlib.Core.Path.{sym, ◌∙◌}
use native.Mathlib.Omega.{arith}
use Rattle.cd_merge_meaning.proofs.Laws.Check.{many_unfit, over_unfit, total_unfit, total_small}
use Rattle.cd_merge.proofs.check.is_unfit.Goals as goal

pub returns-then-lengths-gt-MOST_RANKINGS : goal.returns-then-lengths-gt-MOST_RANKINGS
returns-then-lengths-gt-MOST_RANKINGS c = sym (many_unfit _ _ c.if-lengths-gt-MOST_RANKINGS.true)

pub returns-then-any_over : goal.returns-then-any_over
returns-then-any_over c = sym (over_unfit _ _ c.if-lengths-gt-MOST_RANKINGS.false (sym c.any_over.ensures ∙ c.if-any_over.true))

pub total-requires : goal.total-requires
total-requires c = (c.if-lengths-gt-MOST_RANKINGS.false, sym c.any_over.ensures ∙ c.if-any_over.false)

pub overflow_mul-result : goal.overflow_mul-result
overflow_mul-result c =
    omega
    (arith, c.total.ensures, total_small c.args.list.now c.args.lengths.now c.if-lengths-gt-MOST_RANKINGS.false (sym c.any_over.ensures ∙ c.if-any_over.false))

pub returns : goal.returns
returns c =
    rw c.total.ensures (sym (total_unfit _ _ c.if-lengths-gt-MOST_RANKINGS.false (sym c.any_over.ensures ∙ c.if-any_over.false)))
