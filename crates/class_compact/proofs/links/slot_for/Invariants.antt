use Prim.Native.Nat.{◌-◌}
use Rattle.class_compact.proofs.Loops.Walking.{Walking}
use Rattle.class_compact_meaning.specs.Inner.Links.{LINKS}
use Rattle.class_compact.proofs.links.slot_for.Given as goal

abbrev pub invariant-loop-slot : goal.invariant-loop-slot
invariant-loop-slot l = Walking l.letters l.count l.base l.lower l.links l.slot l.bits

abbrev pub decreases-loop-slot : goal.decreases-loop-slot
decreases-loop-slot l = LINKS - l.slot
