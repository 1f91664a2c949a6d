-- The rows of the lines that were counted stand in the array. Assumes nothing.
use mathlib.Core.Path.{sym, ◌∙◌}
use Rattle.score_month.proofs.Laws.Fits.{rows_in, rows_taken}
use borrow.Author.Rules.{rules}
use Rattle.score_month.proofs.report_lines.Goals as goal

pub slice_bounds-rows-end : goal.slice_bounds-rows-end
slice_bounds-rows-end c =
    rows_in _ _ _ _ _ _ (sym c.score_lines.ensures.value ∙ c.in-Ok.is) _ c.no_rows-rows.ensures c.score_lines.new.out (search rules)

pub slice_bounds-report_rows-end : goal.slice_bounds-report_rows-end
slice_bounds-report_rows-end c =
    rows_taken _ _ _ _ _ _ (sym c.score_lines.ensures.value ∙ c.in-Ok.is) _ c.no_rows-rows.ensures _ (search rules)
