use Prim.Native.Nat.{◌<◌}
use Rattle.class_compact.proofs.Loops.Seeking.{Seeking}
use Rattle.class_compact_meaning.specs.Check.{bad_letters}
use Rattle.class_compact_meaning.specs.Form.{letters_in}
use Rattle.class_compact_meaning.specs.Inner.Form.{HALF}
use Rattle.class_compact.proofs.fault.first_bad_letters.Given as goal

abbrev pub invariant-loop-k : goal.invariant-loop-k
invariant-loop-k l = Seeking (bad_letters l.records l.letters) (letters_in l.letters) l.k × (l.k < HALF)
