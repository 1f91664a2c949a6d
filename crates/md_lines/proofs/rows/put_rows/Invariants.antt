use mathlib.Core.Path.{◌≡◌}
use Rattle.md_lines.specs.Inner.Room.{ROOM}
use Prim.Native.Nat.{◌+◌, ◌-◌}
use lib.ListN.{length}
use Rattle.md_lines.proofs.Loops.Filling.{Filling}
use Rattle.md_lines.proofs.rows.put_rows.Given as goal

abbrev pub invariant-loop-from : goal.invariant-loop-from
invariant-loop-from l =
    Filling l.threshold l.classes l.pairs l.bytes l.initial.out l.out l.from l.at × (length l.room ≡ ROOM)

abbrev pub decreases-loop-from : goal.decreases-loop-from
decreases-loop-from l = length l.bytes + 1 - l.from
