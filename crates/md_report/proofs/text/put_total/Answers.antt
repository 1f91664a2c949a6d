-- The end of the line goes behind the number. Assumes nothing.
use Rattle.pieces.proofs.Laws.Pieces.{goes_on, goes_as}
use native.Mathlib.Omega.{arith}
use Rattle.md_report_meaning.proofs.Laws.Text.{total_pieces}
use Rattle.md_report.proofs.text.put_total.Goals as goal

pub returns : goal.returns
returns c =
    record {
      goes = goes_as (total_pieces _ _) (goes_on c.put_number-a.ensures.goes c.put_piece.ensures);
      near = omega (arith, c.put_number-a.ensures.near, c.put_piece.ensures.ends);
    }
