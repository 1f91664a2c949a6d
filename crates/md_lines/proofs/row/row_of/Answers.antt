-- One law for each case of the answer. Assumes nothing.
use mathlib.Core.Path.{sym, ap, ◌∙◌}
use Rattle.md_lines_meaning.specs.Burst.{row_numbers}
use Rattle.md_lines.proofs.row.row_of.Goals as goal

pub row_of_score-requires : goal.row_of_score-requires
row_of_score-requires c = c.requires _ c.in-Ok.is

pub returns-in-Err : goal.returns-in-Err
returns-in-Err c = c.row_of_refusal.ensures ∙ ap row_numbers (sym c.in-Err.is)

pub returns-in-Ok : goal.returns-in-Ok
returns-in-Ok c = c.row_of_score.ensures ∙ ap row_numbers (sym c.in-Ok.is)
