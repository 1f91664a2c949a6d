-- After i lines the array has how many there are of each number. Assumes nothing.
use native.Mathlib.Omega.{arith}
use Rattle.md_report.proofs.Loops.Counting.{kinds_start, kinds_long, kinds_end}
use borrow.Author.Rules.{rules}
use Rattle.md_report.proofs.count.kinds_of.Goals as goal

pub loop-i-init : goal.loop-i-init
loop-i-init c = (omega arith, kinds_start _, search rules)

pub add_kind-requires : goal.add_kind-requires
add_kind-requires c =
    ((c.requires, omega (arith, c.lines_in-lines.ensures, c.loop-i-test.true)), c.loop-i.invariant.1)

pub loop-i-preserved : goal.loop-i-preserved
loop-i-preserved c = (omega arith, c.add_kind.ensures, kinds_long _ _ _ c.add_kind.ensures)

pub returns : goal.returns
returns c = kinds_end _ _ _ c.loop-i.invariant.1 _ c.lines_in-lines.ensures c.loop-i.invariant.0 c.loop-i-test.false
