-- One law for each return, in 02's order of causes. Assumes nothing.
use mathlib.Core.Path.{sym, ◌∙◌}
use native.Mathlib.Omega.{arith}
use Rattle.utf8_write_meaning.proofs.Laws.Encoded.{ill_within}
use Rattle.utf8_write_meaning.proofs.Laws.Answer.{over_points, not_scalar_lem, no_room_lem, writes}
use Rattle.utf8_write.proofs.write_utf8.Goals as goal

pub returns-then-text-gt-LONGEST_TEXT : goal.returns-then-text-gt-LONGEST_TEXT
returns-then-text-gt-LONGEST_TEXT c =
    let told = over_points _ _ c.if-text-gt-LONGEST_TEXT.true in
    record { value = rw c.refuse.ensures told.0; out_after = told.1 }

pub overflow_cast-first_ill : goal.overflow_cast-first_ill
overflow_cast-first_ill c =
    let w = ill_within c.args.text.now in
    omega (arith, c.first_ill.ensures, c.if-text-gt-LONGEST_TEXT.false)

pub returns-then-not-all_scalar : goal.returns-then-not-all_scalar
returns-then-not-all_scalar c =
    let told = not_scalar_lem _ _ c.if-text-gt-LONGEST_TEXT.false (sym c.all_scalar.ensures ∙ c.if-not-all_scalar.true) in
    record { value = rw (c.refuse-then-not-all_scalar.ensures, c.first_ill.ensures) told.0; out_after = told.1 }

pub returns-then-out-count : goal.returns-then-out-count
returns-then-out-count c =
    let told = no_room_lem _ _ c.if-text-gt-LONGEST_TEXT.false (sym c.all_scalar.ensures ∙ c.if-not-all_scalar.false)
    (rw c.needed-count.ensures at c.if-out-count.true) in
    record { value = rw c.refuse-then-out-count.ensures told.0; out_after = told.1 }

pub encode_into-requires : goal.encode_into-requires
encode_into-requires c =
    (sym c.all_scalar.ensures ∙ c.if-not-all_scalar.false, rw c.needed-count.ensures at c.if-out-count.false)

pub returns : goal.returns
returns c =
    let told = writes _ _ c.if-text-gt-LONGEST_TEXT.false (sym c.all_scalar.ensures ∙ c.if-not-all_scalar.false)
    (rw c.needed-count.ensures at c.if-out-count.false) in
    record { value = rw c.needed-count.ensures told.0; out_after = rw c.encode_into.ensures told.1 }
