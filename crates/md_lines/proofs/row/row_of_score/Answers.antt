-- Zeros, with the ratios' bits put behind the number and the place, and the rest behind them, the counts last. Assumes nothing.
use Rattle.md_lines_meaning.proofs.Laws.Burst.{row_told, row_room}
use Rattle.md_lines.proofs.Loops.Counting.{byte_bump}
use Rattle.md_lines.proofs.row.row_of_score.Goals as goal

pub put_row-requires-2 : goal.put_row-requires-2
put_row-requires-2 c =
    rw c.put_row.ensures (row_room _ _ _ _ _ _ _ c.bits-ratios.ensures c.shown_numbers-counts.ensures)

pub returns : goal.returns
returns c =
    rw (c.put_row-2.ensures, c.put_row.ensures)
    (row_told _ _ _ _ c.bits-ratios.ensures (byte_bump _ _ c.from.ensures).0 c.shown_numbers-counts.ensures)
