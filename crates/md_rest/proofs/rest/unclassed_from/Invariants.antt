use Prim.Native.Nat.{◌≤◌, ◌-◌}
use mathlib.Core.Path.{◌≡◌}
use lib.ListN.{length}
use Rattle.base.specs.Inner.First.{first_from}
use Rattle.md_meaning.specs.Text.{total}
use Rattle.md_meaning.specs.Scan.{unclassed}
use Rattle.md_rest.proofs.rest.unclassed_from.Given as goal

abbrev pub invariant-loop-i : goal.invariant-loop-i
invariant-loop-i l =
    (l.i ≤ total l.text) × (first_from (unclassed l.classes l.text) (total l.text) l.i ≡ first_from (unclassed l.classes l.text) (total l.text) l.from)

abbrev pub decreases-loop-i : goal.decreases-loop-i
decreases-loop-i l = length l.text - l.i
