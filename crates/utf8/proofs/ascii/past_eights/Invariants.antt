use Prim.Native.Nat.{◌+◌, ◌*◌}
use Rattle.utf8_meaning.specs.Inner.Ascii.{AsciiRun}
use Rattle.utf8.proofs.ascii.past_eights.Given as goal

abbrev pub invariant-loop-k : goal.invariant-loop-k
invariant-loop-k l = AsciiRun l.b l.i (l.i + 8 * l.k)
