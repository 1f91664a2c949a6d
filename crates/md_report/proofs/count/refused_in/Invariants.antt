use Prim.Native.Nat.{◌+◌, ◌≤◌}
use mathlib.Core.Path.{◌≡◌}
use lib.ListN.{get_or}
use Rattle.md_report_meaning.specs.Bins.{sum_to, OTHER}
use Rattle.md_report.proofs.count.refused_in.Given as goal

abbrev pub invariant-loop-n : goal.invariant-loop-n
invariant-loop-n l = (l.n-index ≤ OTHER) × (l.sum ≡ sum_to (λ j. get_or l.kinds (j + 1) 0) l.n-index)
