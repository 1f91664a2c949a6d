-- A text that is too long, then a bad page; under a good one `read_good` decides. Assumes nothing.
use mathlib.Core.Path.{sym, ◌∙◌}
use Rattle.base.proofs.Laws.Causes.{handed_on}
use Rattle.page_meaning.proofs.Laws.Answer.{allowed_good, over_read, bad_read}
use Rattle.page.proofs.read_page.Goals as goal

pub returns-then-bytes-gt-LONGEST_TEXT : goal.returns-then-bytes-gt-LONGEST_TEXT
returns-then-bytes-gt-LONGEST_TEXT c =
    let told = over_read _ _ _ c.if-bytes-gt-LONGEST_TEXT.true in
    record { value = rw c.refuse.ensures told.0; out_after = told.1 }

pub read_good-requires : goal.read_good-requires
read_good-requires c =
    (c.if-bytes-gt-LONGEST_TEXT.false, allowed_good _ (sym c.bad_page.ensures ∙ c.in_ok-bad_page.was))

pub returns-in_err-bad_page : goal.returns-in_err-bad_page
returns-in_err-bad_page c =
    let told = bad_read _ _ _ c.if-bytes-gt-LONGEST_TEXT.false _ (sym c.bad_page.ensures ∙ c.in_err-bad_page.was) in
    record { value = handed_on _ _ c.from_residual.ensures.1 ∙ told.0; out_after = told.1 }
