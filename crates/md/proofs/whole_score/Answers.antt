-- The same causes as the default call's, and a scan that never stops. Assumes nothing.
use mathlib.Core.Path.{sym, ◌∙◌}
use Rattle.base.proofs.Laws.Causes.{handed_on}
use Rattle.md_meaning.proofs.Laws.Lent.{free_checked}
use Rattle.md_meaning.proofs.Laws.MessRatio.{whole_long, whole_lent, whole_scan}
use Rattle.md.proofs.whole_score.Goals as goal

pub returns-then-text-gt-LONGEST_TEXT : goal.returns-then-text-gt-LONGEST_TEXT
returns-then-text-gt-LONGEST_TEXT c = c.refuse.ensures ∙ whole_long _ _ _ c.if-text-gt-LONGEST_TEXT.true

pub scan_text-requires : goal.scan_text-requires
scan_text-requires c =
    (free_checked _ _ (sym c.check_tables.ensures ∙ c.in_ok-check_tables.was), c.if-text-gt-LONGEST_TEXT.false)

pub returns-in_err-check_tables : goal.returns-in_err-check_tables
returns-in_err-check_tables c =
    handed_on _ _ c.from_residual.ensures.1 ∙ whole_lent _ _ _ c.if-text-gt-LONGEST_TEXT.false _ (sym c.check_tables.ensures ∙ c.in_err-check_tables.was)

pub returns : goal.returns
returns c =
    c.scan_text.ensures
    ∙ whole_scan _ _ _ c.if-text-gt-LONGEST_TEXT.false (sym c.check_tables.ensures ∙ c.in_ok-check_tables.was)
