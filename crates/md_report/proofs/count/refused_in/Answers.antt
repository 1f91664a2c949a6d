-- After each number the sum is of the lines of those up to it. Assumes nothing.
use Prim.Native.Nat.{ℕ, ◌+◌, ◌<◌}
use mathlib.Core.Path.{◌≡◌, ap, ◌∙◌}
use mathlib.Core.List.{List}
use native.Mathlib.Omega.{arith}
use lib.ListN.{get_or, drop}
use lib.Seq.{get_or-drop}
use Rattle.std.proofs.Common.{get_or-take}
use borrow.Rule.Slice.PartMut.{mid_of}
use Rattle.md_report_meaning.specs.Bins.{OTHER}
use Rattle.md_report_meaning.specs.Report.{MOST_LINES}
use Rattle.md_report_meaning.proofs.Laws.Sums.{sum_start, sum_more, sum_end, sum_few}
use Rattle.md_report.proofs.count.refused_in.Goals as goal

-- the numbers behind the first
next : (kinds : List ℕ) (k : ℕ) → k < OTHER → get_or (mid_of 1 OTHER kinds) k 0 ≡ get_or kinds (k + 1) 0
next kinds k h = get_or-take OTHER (drop 1 kinds) k 0 h ∙ get_or-drop 1 kinds k 0 ∙ ap (λ (j : ℕ). get_or kinds j 0) (omega arith)

pub loop-n-init : goal.loop-n-init
loop-n-init c = (omega arith, sum_start _)

pub overflow_add-sum : goal.overflow_add-sum
overflow_add-sum c =
    let few = sum_few (λ j. get_or c.args.kinds.now (j + 1) 0) MOST_LINES c.loop-n.n-index (λ j. c.requires (j + 1)) in
    let one = c.requires (c.loop-n.n-index + 1) in
    omega (arith, few, one, next c.args.kinds.now c.loop-n.n-index (omega arith), c.loop-n.invariant.0, c.loop-n.invariant.1)

pub loop-n-preserved : goal.loop-n-preserved
loop-n-preserved c = (omega arith, rw (next c.args.kinds.now c.loop-n.n-index (omega arith)) (sum_more _ _ _ c.loop-n.invariant.1))

pub returns : goal.returns
returns c = sum_end _ _ _ _ c.loop-n.invariant.1 c.loop-n.invariant.0 (omega (arith, c.loop-n-test.false))
