use Rattle.md_runs.proofs.Laws.Ahead.{Looked}
use Rattle.md_runs.proofs.ahead.past_ahead.Given as goal

abbrev pub invariant-loop-j : goal.invariant-loop-j
invariant-loop-j l = Looked l.text l.low l.high l.from l.first l.j
