use Rattle.cd_jaro.proofs.Loops.Place.{Seeking}
use Rattle.cd_jaro.proofs.place.Given as goal

abbrev pub invariant-loop-j : goal.invariant-loop-j
invariant-loop-j l = Seeking l.language l.taken l.x l.i l.w l.j
