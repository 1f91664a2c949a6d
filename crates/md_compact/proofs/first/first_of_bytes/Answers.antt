-- By what reading answers. Assumes nothing.
use mathlib.Core.Path.{sym, ◌∙◌}
use Rattle.base.proofs.Laws.Causes.{handed_on}
use Rattle.md_compact.proofs.Laws.Either.{bytes_bad, bytes_fine}
use Rattle.md_compact.proofs.first.first_of_bytes.Goals as goal

pub returns-in_err-count_utf8 : goal.returns-in_err-count_utf8
returns-in_err-count_utf8 c = handed_on _ _ c.from_residual.ensures.1 ∙ bytes_bad _ _ _ (sym c.count_utf8.ensures ∙ c.in_err-count_utf8.was)

pub returns : goal.returns
returns c =
    c.first_of_threshold.ensures ∙ bytes_fine _ _ _ (sym c.count_utf8.ensures ∙ c.in_ok-count_utf8.was)
