use Rattle.class_compact.proofs.Loops.Seeking.{Seeking}
use Rattle.class_compact_meaning.specs.Form.{place_at}
use lib.Dec.{eqb}
use Rattle.class_compact.proofs.fault.first_use.Given as goal

abbrev pub invariant-loop-i : goal.invariant-loop-i
invariant-loop-i l = Seeking (λ j. eqb (place_at l.records j) l.place) l.n l.i
