-- The definition, word by word. Assumes nothing.
use mathlib.Core.Path.{refl}
use Rattle.md_report_meaning.specs.Rows.{lines_in}
use Rattle.md_report.proofs.count.lines_in.Goals as goal

pub returns : goal.returns
unfolding lines_in
returns c = refl
