use Prim.Native.Nat.{ℕ, ◌≤◌, ◌<◌}
use mathlib.Core.Path.{◌≡◌}
use lib.ListN.{length, get_or}
use Rattle.md_second.specs.Inner.Lists.{ROOM, class_here}
use Rattle.md_second.proofs.classed.list_of.Given as goal

abbrev pub invariant-loop-i : goal.invariant-loop-i
invariant-loop-i g l =
    (l.i ≤ l.n) × (length l.list ≡ ROOM) × ((j : ℕ) → j < l.i → goal.F-post g l.part (class_here l.classes l.text j) (get_or l.list j 0))
