-- Each return is one of the causes, in their order, or the scan behind them. Assumes nothing.
use mathlib.Core.Path.{sym, ◌∙◌}
use Rattle.base.proofs.Laws.Causes.{handed_on}
use Rattle.classes.proofs.Laws.Tables.{free_tables}
use Rattle.md_second.proofs.Laws.Agreed.{second_refuses, agreed_unbounded, agreed_classes, agreed_pairs, agreed_scan}
use Rattle.md_second.proofs.second_score.Goals as goal

pub returns-then-text-gt-SECOND_LONGEST : goal.returns-then-text-gt-SECOND_LONGEST
returns-then-text-gt-SECOND_LONGEST c = c.refuse.ensures ∙ sym (second_refuses _ _ _ _ c.if-text-gt-SECOND_LONGEST.true)

pub returns-then-not-is_finite : goal.returns-then-not-is_finite
returns-then-not-is_finite c = c.refuse-then-not-is_finite.ensures ∙ agreed_unbounded _ _ _ _ c.if-text-gt-SECOND_LONGEST.false (sym c.is_finite.ensures ∙ c.if-not-is_finite.true)

pub second_scan-requires : goal.second_scan-requires
second_scan-requires c = (
  free_tables _ _ (sym c.bad_classes.ensures ∙ c.in_ok-bad_classes.was) (sym c.bad_pairs.ensures ∙ c.in_ok-bad_pairs.was),
  c.if-text-gt-SECOND_LONGEST.false,
)

pub returns-in_err-bad_classes : goal.returns-in_err-bad_classes
returns-in_err-bad_classes c =
    handed_on _ _ c.from_residual.ensures.1
    ∙ agreed_classes _ _ _ _ c.if-text-gt-SECOND_LONGEST.false (sym c.is_finite.ensures ∙ c.if-not-is_finite.false) _
    (sym c.bad_classes.ensures ∙ c.in_err-bad_classes.was)

pub returns-in_err-bad_pairs : goal.returns-in_err-bad_pairs
returns-in_err-bad_pairs c =
    handed_on _ _ c.from_residual-in_err-bad_pairs.ensures.1
    ∙ agreed_pairs _ _ _ _ c.if-text-gt-SECOND_LONGEST.false (sym c.is_finite.ensures ∙ c.if-not-is_finite.false)
    (sym c.bad_classes.ensures ∙ c.in_ok-bad_classes.was) _ (sym c.bad_pairs.ensures ∙ c.in_err-bad_pairs.was)

pub returns : goal.returns
returns c =
    c.second_scan.ensures ∙ agreed_scan _ _ _ _ c.if-text-gt-SECOND_LONGEST.false (sym c.is_finite.ensures ∙ c.if-not-is_finite.false)
    (sym c.bad_classes.ensures ∙ c.in_ok-bad_classes.was)
    (sym c.bad_pairs.ensures ∙ c.in_ok-bad_pairs.was)
