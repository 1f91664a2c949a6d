-- Reading refuses first; bytes that were counted are readable. Assumes nothing.
use mathlib.Core.Path.{sym, ◌∙◌}
use Rattle.base.proofs.Laws.Causes.{handed_on}
use Rattle.utf8_meaning.proofs.Laws.Answer.{readable}
use Rattle.md_reason_meaning.proofs.Laws.ReasonUtf8.{unread, unread_into, read, read_into_lem}
use Rattle.md_reason.proofs.utf8_bytes.reason_utf8.Goals as goal

pub reason_read-requires : goal.reason_read-requires
reason_read-requires c =
    readable _ _ (sym c.count_utf8.ensures ∙ c.in_ok-count.was)

pub returns-in_err-count : goal.returns-in_err-count
returns-in_err-count c =
    let e = sym c.count_utf8.ensures ∙ c.in_err-count.was in
    record { value = handed_on _ _ c.from_residual.ensures.1 ∙ unread _ _ _ _ _ e _; out_after = unread_into _ _ _ _ _ e _ }

pub returns : goal.returns
returns c =
    let e = sym c.count_utf8.ensures ∙ c.in_ok-count.was in
    record {
      value = c.reason_read.ensures.value ∙ read _ _ _ _ _ e _;
      out_after = c.reason_read.ensures.out_after ∙ read_into_lem _ _ _ _ _ e _;
    }
