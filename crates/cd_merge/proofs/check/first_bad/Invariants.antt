use Prim.Native.Nat.{◌≤◌}
use mathlib.Core.Path.{◌≡◌}
use mathlib.Core.Bool.{not}
use Rattle.base.specs.Inner.First.{first_from}
use Rattle.cd_merge_meaning.specs.Entries.{entries, score_at}
use Rattle.cd_merge_meaning.specs.Answer.{is_score, first_bad}
use Rattle.cd_merge.proofs.check.first_bad.Given as goal

abbrev pub invariant-loop-i : goal.invariant-loop-i
invariant-loop-i l = (l.i ≤ entries l.list) × (first_from (λ k. not (is_score (score_at l.list k))) (entries l.list) l.i ≡ first_bad l.list)
