-- Each return is a case of the answer: what is written is the text, which stands in the array's first places. Assumes nothing.
use mathlib.Core.Path.{◌∙◌, ap}
use native.Mathlib.Nat.{zero-add}
use native.Mathlib.Omega.{arith}
use Rattle.base.specs.Put.{put}
use Rattle.pieces.proofs.Laws.Pieces.{goes_first, goes_taken}
use Rattle.md_report_meaning.proofs.Laws.Answer.{many_lines_lem, no_room_lem, written}
use Rattle.md_report.proofs.report.Goals as goal

pub returns-then-lines_in-gt-MOST_LINES : goal.returns-then-lines_in-gt-MOST_LINES
returns-then-lines_in-gt-MOST_LINES c =
    let ends = many_lines_lem _ _ _ c.lines_in.ensures c.if-lines_in-gt-MOST_LINES.true in
    record { value = c.refuse.ensures ∙ ends.0; out_after = ends.1 }

pub returns-then-out-n : goal.returns-then-out-n
returns-then-out-n c =
    let ends = no_room_lem _ _ _ c.lines_in.ensures c.if-lines_in-gt-MOST_LINES.false _ (c.write_report-n.ensures.ends ∙ zero-add _) c.if-out-n.true in
    record { value = c.refuse-then-out-n.ensures ∙ ends.0; out_after = ends.1 }

pub slice_bounds-put_piece-end : goal.slice_bounds-put_piece-end
slice_bounds-put_piece-end c =
    goes_taken c.write_report-n.ensures

pub put_piece-requires : goal.put_piece-requires
put_piece-requires c =
    let taken = goes_taken c.write_report-n.ensures in
    omega (arith, taken, c.if-out-n.false)

pub returns : goal.returns
returns c =
    let told = written _ _ _ c.lines_in.ensures c.if-lines_in-gt-MOST_LINES.false _ (c.write_report-n.ensures.ends ∙ zero-add _) _ c.if-out-n.false
    (c.put_piece.ensures.is ∙ ap (put _ 0) (goes_first c.write_report-n.ensures)) in
    record { value = told.0; out_after = told.1 }
