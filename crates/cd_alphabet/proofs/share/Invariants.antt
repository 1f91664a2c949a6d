use Rattle.cd_alphabet.proofs.Loops.Alphabet.{Counting}
use Rattle.cd_alphabet.proofs.share.Given as goal

abbrev pub invariant-loop-i : goal.invariant-loop-i
invariant-loop-i l = Counting l.layer l.alphabet l.num l.den l.i
