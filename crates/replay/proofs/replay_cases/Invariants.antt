use Rattle.std.proofs.Common.{◌≡◌}
use denote.Param.Always.{always_mut}
use Rattle.replay.proofs.replay_cases.Given as goal

abbrev pub invariant-loop-k : goal.invariant-loop-k
invariant-loop-k g l = (always_mut g.F.FnMut l.initial.same → always_mut g.F.FnMut l.same) × (l.t.cases ≡ l.k)
