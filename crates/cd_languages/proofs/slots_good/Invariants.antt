use Prim.Native.Nat.{◌≤◌}
use mathlib.Core.Path.{◌≡◌}
use Rattle.base.specs.Limits.{LANGUAGE_LETTERS}
use Rattle.base.specs.First.{each}
use Rattle.cd_languages.specs.Languages.{letter_count, slot_good}
use Rattle.cd_languages.proofs.slots_good.Given as goal

abbrev pub invariant-loop-k : goal.invariant-loop-k
invariant-loop-k l = (letter_count l.t l.i ≤ l.k) × (l.k ≤ LANGUAGE_LETTERS) × (l.good ≡ each (slot_good l.t l.i) l.k)
