use Prim.Native.Nat.{◌≤◌}
use mathlib.Core.Path.{◌≡◌}
use Rattle.md_report_meaning.specs.Inner.Counts.{bins_after}
use lib.ListN.{length}
use Rattle.md_report_meaning.specs.Bins.{BINS}
use Rattle.md_report.proofs.count.bins_of.Given as goal

abbrev pub invariant-loop-i : goal.invariant-loop-i
invariant-loop-i l = (l.i ≤ l.lines) × (l.counts ≡ bins_after l.rows l.d l.i) × (length l.counts ≡ BINS)
