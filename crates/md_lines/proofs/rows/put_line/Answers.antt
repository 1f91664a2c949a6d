-- What is put is the row of the line's score. Assumes nothing.
use mathlib.Core.Path.{sym, ◌∙◌}
use Rattle.md_utf8_meaning.proofs.Laws.ScoreUtf8.{utf8_plain}
use Rattle.md_lines.proofs.rows.put_line.Goals as goal

pub row_of-row-requires : goal.row_of-row-requires
row_of-row-requires c = λ s e. utf8_plain _ _ _ _ s (sym c.score_line.ensures ∙ e)

pub returns : goal.returns
returns c =
    rw (c.put_row.ensures, c.row_of-row.ensures, c.score_line.ensures)
