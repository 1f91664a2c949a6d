use Prim.Native.Nat.{◌≤◌}
use mathlib.Core.Path.{◌≡◌}
use lib.Dec.{eqb}
use Rattle.base.specs.Inner.First.{first_from}
use Rattle.cd_languages.specs.Languages.{number_of, first_record}
use Rattle.cd_languages.proofs.first_record.Given as goal

abbrev pub invariant-loop-i : goal.invariant-loop-i
invariant-loop-i l = (l.i ≤ l.n) × (first_from (λ j. eqb (number_of l.t j) l.x) l.n l.i ≡ first_record l.t l.x)
