use Prim.Native.Nat.{◌≤◌}
use mathlib.Core.Path.{◌≡◌}
use Rattle.class_records.specs.Records.{records}
use Rattle.md_rest.specs.Inner.Whole.{sizes_before}
use Rattle.md_rest.proofs.whole.sizes.Given as goal

abbrev pub invariant-loop-i : goal.invariant-loop-i
invariant-loop-i l = (l.i ≤ records l.classes) × (l.sum ≡ sizes_before l.classes l.i)
