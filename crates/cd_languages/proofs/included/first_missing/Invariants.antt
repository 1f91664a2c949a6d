use Prim.Native.Nat.{◌≤◌}
use mathlib.Core.Bool.{not}
use lib.ListN.{length, get_or}
use mathlib.Core.Path.{◌≡◌}
use Rattle.base.specs.Inner.First.{first_from}
use Rattle.cd_languages.specs.Included.{in_table, first_missing}
use Rattle.cd_languages.proofs.included.first_missing.Given as goal

abbrev pub invariant-loop-i : goal.invariant-loop-i
invariant-loop-i l = (l.i ≤ length l.included) × (first_from (λ j. not (in_table l.languages (get_or l.included j 0))) (length l.included) l.i ≡ first_missing l.included l.languages)
