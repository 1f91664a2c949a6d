use Rattle.base.specs.Limits.{CLASS_RECORD}
use Rattle.class_compact.proofs.Loops.InFirstUse.{Seen}
use Rattle.class_compact.proofs.Loops.Laying.{Laying}
use Rattle.class_compact_meaning.specs.Form.{compact_records}
use Rattle.class_compact_meaning.specs.Unpacked.{expansion}
use Rattle.class_compact.proofs.expand.unpack_into.Given as goal

abbrev pub invariant-loop-i : goal.invariant-loop-i
invariant-loop-i l = Laying (expansion l.records l.letters) CLASS_RECORD (compact_records l.records) l.initial.out l.out l.i × Seen l.records l.i l.seen l.ordered
