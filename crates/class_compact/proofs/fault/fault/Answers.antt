-- Each return is one of the causes, in their order. Assumes nothing.
use Rattle.class_compact_meaning.proofs.Laws.Calls.{fault_record, fault_ragged, fault_letters, fault_none}
use mathlib.Core.Path.{◌∙◌}
use native.Mathlib.Omega.{arith}
use Rattle.class_compact.proofs.fault.fault.Goals as goal

pub overflow_cast-bad : goal.overflow_cast-bad
overflow_cast-bad c = omega (arith, c.if-bad-records.true, c.requires.sized.few)

pub returns-then-bad-records : goal.returns-then-bad-records
returns-then-bad-records c =
    c.refuse.ensures ∙ fault_record _ _ c.requires.sized _ c.first_bad_record-bad.ensures c.if-bad-records.true

pub returns-then-letters-ne0 : goal.returns-then-letters-ne0
returns-then-letters-ne0 c =
    c.refuse-then-letters-ne0.ensures ∙ fault_ragged _ _ c.requires.sized _ c.first_bad_record-bad.ensures c.if-bad-records.false
    c.if-letters-ne0.true

pub overflow_cast-k : goal.overflow_cast-k
overflow_cast-k c = omega (arith, c.first_bad_letters-k.ensures.small)

pub returns-then-k-letters : goal.returns-then-k-letters
returns-then-k-letters c =
    c.refuse-then-k-letters.ensures ∙ fault_letters _ _ c.requires.sized _ c.first_bad_record-bad.ensures c.if-bad-records.false
    c.if-letters-ne0.false _ c.first_bad_letters-k.ensures.is c.if-k-letters.true

pub returns : goal.returns
returns c =
    fault_none _ _ c.requires.sized _ c.first_bad_record-bad.ensures c.if-bad-records.false c.if-letters-ne0.false _
    c.first_bad_letters-k.ensures.is c.if-k-letters.false
