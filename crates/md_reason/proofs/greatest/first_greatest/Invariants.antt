use Prim.Native.Nat.{◌≤◌}
use mathlib.Core.Path.{◌≡◌}
use Rattle.base.specs.Inner.First.{first_from}
use Rattle.ratio.specs.Eight.{DETECTORS}
use Rattle.md_reason_meaning.specs.Greatest.{ratio_at, at_least_all, first_greatest}
use Rattle.md_reason.proofs.greatest.first_greatest.Given as goal

abbrev pub invariant-loop-k : goal.invariant-loop-k
invariant-loop-k l = (l.k ≤ DETECTORS) × (first_from (λ j. at_least_all (ratio_at l.r j) l.r) DETECTORS l.k ≡ first_greatest l.r)
