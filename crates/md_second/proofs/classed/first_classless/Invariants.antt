use Prim.Native.Nat.{◌≤◌}
use mathlib.Core.Path.{◌≡◌}
use Rattle.base.specs.First.{first}
use Rattle.base.specs.Inner.First.{first_from}
use Rattle.md_meaning.specs.Scan.{unclassed}
use Rattle.md_second.proofs.classed.first_classless.Given as goal

abbrev pub invariant-loop-i : goal.invariant-loop-i
invariant-loop-i l = (l.i ≤ l.n) × (first_from (unclassed l.classes l.text) l.n l.i ≡ first (unclassed l.classes l.text) l.n)
