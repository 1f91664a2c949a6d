-- Each return is one of 01's causes, in its order, or the scan behind them. Assumes nothing.
use mathlib.Core.Path.{sym, ◌∙◌}
use Rattle.base.proofs.Laws.Causes.{handed_on}
use Rattle.md_meaning.proofs.Laws.Lent.{free_lent}
use Rattle.md_meaning.proofs.Laws.MessRatio.{ratio_long, ratio_lent, ratio_scan}
use Rattle.md.proofs.mess_ratio.Goals as goal

pub returns-then-text-gt-LONGEST_TEXT : goal.returns-then-text-gt-LONGEST_TEXT
returns-then-text-gt-LONGEST_TEXT c = c.refuse.ensures ∙ ratio_long _ _ _ _ c.if-text-gt-LONGEST_TEXT.true

pub scan_text-requires : goal.scan_text-requires
scan_text-requires c =
    ((free_lent _ _ _ (sym c.check_lent.ensures ∙ c.in_ok-check_lent.was)).1, c.if-text-gt-LONGEST_TEXT.false)

pub returns-in_err-check_lent : goal.returns-in_err-check_lent
returns-in_err-check_lent c =
    handed_on _ _ c.from_residual.ensures.1 ∙ ratio_lent _ _ _ _ c.if-text-gt-LONGEST_TEXT.false _ (sym c.check_lent.ensures ∙ c.in_err-check_lent.was)

pub returns : goal.returns
returns c =
    c.scan_text.ensures
    ∙ ratio_scan _ _ _ _ c.if-text-gt-LONGEST_TEXT.false (sym c.check_lent.ensures ∙ c.in_ok-check_lent.was)
