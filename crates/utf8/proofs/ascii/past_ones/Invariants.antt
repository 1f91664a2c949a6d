use Rattle.utf8_meaning.specs.Inner.Ascii.{AsciiRun}
use Rattle.utf8.proofs.ascii.past_ones.Given as goal

abbrev pub invariant-loop-j : goal.invariant-loop-j
invariant-loop-j l = AsciiRun l.b l.i l.j
