-- After i lines the array has their bins. Assumes nothing.
use native.Mathlib.Omega.{arith}
use Rattle.md_report.proofs.Loops.Counting.{bins_start, bins_long, bins_end}
use borrow.Author.Rules.{rules}
use Rattle.md_report.proofs.count.bins_of.Goals as goal

pub loop-i-init : goal.loop-i-init
loop-i-init c = (omega arith, bins_start _ _, search rules)

pub add_line-requires : goal.add_line-requires
add_line-requires c =
    ((c.requires.0, omega (arith, c.lines_in-lines.ensures, c.loop-i-test.true)), c.requires.1, c.loop-i.invariant.1)

pub loop-i-preserved : goal.loop-i-preserved
loop-i-preserved c = (omega arith, c.add_line.ensures, bins_long _ _ _ _ c.add_line.ensures)

pub returns : goal.returns
returns c = bins_end _ _ _ _ c.loop-i.invariant.1 _ c.lines_in-lines.ensures c.loop-i.invariant.0 c.loop-i-test.false
