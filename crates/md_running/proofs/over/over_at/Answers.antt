-- Away from a checkpoint the definition's test is false, and at one it is the comparison. Assumes nothing.
use mathlib.Core.Path.{sym, ◌∙◌}
use Rattle.md_meaning.specs.Scan.{reaches, sum_of}
use Rattle.md_running.proofs.over.over_at.Goals as goal

pub returns-then-line_checkpoint : goal.returns-then-line_checkpoint
unfolding reaches sum_of
returns-then-line_checkpoint c =
    simp (sym c.line_checkpoint.ensures ∙ c.if-line_checkpoint.true, c.sum.ensures, c.ratios.ensures)
