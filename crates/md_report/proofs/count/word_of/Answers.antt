-- The row is whole, so that each of its words is there. Assumes nothing.
use native.Mathlib.Omega.{arith}
use Rattle.md_report_meaning.specs.Rows.{lines_in}
use Rattle.md_report.proofs.count.word_of.Goals as goal

pub bounds-rows-i : goal.bounds-rows-i
unfolding lines_in
bounds-rows-i c = omega (arith, c.requires.0.1, c.requires.1)
