use Rattle.cd_jaro.proofs.Loops.Matched.{Matched}
use Rattle.cd_jaro.proofs.matched.Given as goal

abbrev pub invariant-loop-i : goal.invariant-loop-i
invariant-loop-i l = Matched l.layer l.language l.taken l.letters l.m l.i
