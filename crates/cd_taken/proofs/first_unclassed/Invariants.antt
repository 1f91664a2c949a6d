use Prim.Native.Nat.{◌≤◌}
use mathlib.Core.Path.{◌≡◌}
use lib.ListN.{length}
use Rattle.base.specs.Inner.First.{first_from}
use Rattle.cd_taken_meaning.specs.Unclassed.{unclassed_at, first_unclassed}
use Rattle.cd_taken.proofs.first_unclassed.Given as goal

abbrev pub invariant-loop-i : goal.invariant-loop-i
invariant-loop-i l = (l.i ≤ length l.text) × (first_from (unclassed_at l.classes l.text) (length l.text) l.i ≡ first_unclassed l.classes l.text)
