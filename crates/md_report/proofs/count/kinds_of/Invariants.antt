use Prim.Native.Nat.{◌≤◌}
use mathlib.Core.Path.{◌≡◌}
use lib.ListN.{length}
use Rattle.md_report_meaning.specs.Inner.Counts.{KINDS, kinds_after}
use Rattle.md_report.proofs.count.kinds_of.Given as goal

abbrev pub invariant-loop-i : goal.invariant-loop-i
invariant-loop-i l = (l.i ≤ l.lines) × (l.counts ≡ kinds_after l.rows l.i) × (length l.counts ≡ KINDS)
