-- Zeros, with the number and the place put in. Assumes nothing.
use Rattle.md_lines_meaning.proofs.Laws.Burst.{row_refused}
use Rattle.md_lines.proofs.row.row_of_refusal.Goals as goal

pub returns : goal.returns
returns c = rw c.number.ensures (row_refused _)
