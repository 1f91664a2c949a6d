-- Bytes that were counted are readable, and what passed the check is ready for the scan. Assumes nothing.
use native.Mathlib.Omega.{arith}
use mathlib.Core.Path.{sym, ◌∙◌}
use Rattle.base.proofs.Laws.Causes.{handed_on}
use Rattle.utf8_meaning.proofs.Laws.Answer.{readable}
use Rattle.md_meaning.proofs.Laws.MessRatio.{ratio_lent}
use Rattle.md_utf8.proofs.Laws.Lendable.{lendable}
use Rattle.md_utf8_meaning.proofs.Laws.ScoreUtf8.{unread, read}
use Rattle.md_utf8.proofs.mess_ratio_utf8.Goals as goal

pub score_read-requires : goal.score_read-requires
score_read-requires c = (
  readable _ _ (sym c.count_utf8.ensures ∙ c.in_ok-count.was),
  lendable _ _ _ _ (sym c.check_lent.ensures ∙ c.in_ok-check_lent.was) c.table-table.ensures,
)

pub returns-in_err-count : goal.returns-in_err-count
returns-in_err-count c =
    handed_on _ _ c.from_residual.ensures.1 ∙ unread _ _ _ _ _ (sym c.count_utf8.ensures ∙ c.in_err-count.was)

pub returns-in_err-check_lent : goal.returns-in_err-check_lent
returns-in_err-check_lent c =
    let counted = sym c.count_utf8.ensures ∙ c.in_ok-count.was in
    let can = readable _ _ counted in
    handed_on _ _ c.from_residual-in_err-check_lent.ensures.1
    ∙ read _ _ _ _ _ counted _
    (ratio_lent _ _ _ _ (omega (arith, can.few, can.count)) _ (sym c.check_lent.ensures ∙ c.in_err-check_lent.was))

pub returns : goal.returns
returns c =
    read _ _ _ _ _ (sym c.count_utf8.ensures ∙ c.in_ok-count.was) _ c.score_read.ensures
