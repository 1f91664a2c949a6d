-- After i turns the list holds `filled r ys i`. Assumes nothing.
use mathlib.Core.Path.{◌≡◌}
use Rattle.cd_list.proofs.Loops.Filled.{filled}
use Rattle.cd_list.proofs.put_matches.Given as goal

abbrev pub invariant-loop-i : goal.invariant-loop-i
invariant-loop-i l = l.out ≡ filled l.r l.initial.out l.i
