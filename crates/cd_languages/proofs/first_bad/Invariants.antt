use Prim.Native.Nat.{◌≤◌}
use mathlib.Core.Bool.{not}
use mathlib.Core.Path.{◌≡◌}
use Rattle.base.specs.Inner.First.{first_from}
use Rattle.cd_languages.specs.Languages.{good_record, first_bad}
use Rattle.cd_languages.proofs.first_bad.Given as goal

abbrev pub invariant-loop-i : goal.invariant-loop-i
invariant-loop-i l = (l.i ≤ l.n) × (first_from (λ j. not (good_record l.t j)) l.n l.i ≡ first_bad l.t)
