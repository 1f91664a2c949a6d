use Prim.Native.Nat.{◌≤◌}
use mathlib.Core.Path.{◌≡◌}
use Rattle.base.specs.First.{each}
use Rattle.cd_languages.specs.Languages.{slot_good}
use Rattle.cd_languages.proofs.used_good.Given as goal

abbrev pub invariant-loop-k : goal.invariant-loop-k
invariant-loop-k l = (l.k ≤ l.n) × (l.good ≡ each (slot_good l.t l.i) l.k)
