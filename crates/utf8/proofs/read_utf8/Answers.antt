-- A refusal of the count is passed on; else the room decides, and the output is written only where there is enough. Assumes nothing.
use mathlib.Core.Path.{sym, ◌∙◌}
use native.Mathlib.Omega.{arith}
use Rattle.base.proofs.Laws.Causes.{handed_on}
use Rattle.utf8_meaning.proofs.Laws.Answer.{readable, refuses, no_room_lem, reads as all_read}
use Rattle.utf8.proofs.read_utf8.Goals as goal

pub returns-then-out-count : goal.returns-then-out-count
returns-then-out-count c =
    let told = no_room_lem _ _ _ (sym c.count_utf8.ensures ∙ c.in_ok-count.was) c.if-out-count.true in
    record { value = rw c.refuse.ensures told.0; out_after = told.1 }

pub fill-requires : goal.fill-requires
fill-requires c =
    let r = readable _ _ (sym c.count_utf8.ensures ∙ c.in_ok-count.was) in (r.whole, omega arith)

pub returns-in_err-count : goal.returns-in_err-count
returns-in_err-count c =
    let told = refuses _ _ _ (sym c.count_utf8.ensures ∙ c.in_err-count.was) in
    record { value = handed_on _ _ c.from_residual.ensures.1 ∙ told.0; out_after = told.1 }

pub returns : goal.returns
returns c =
    let told = all_read _ _ _ (sym c.count_utf8.ensures ∙ c.in_ok-count.was) c.if-out-count.false in
    record { value = told.0; out_after = rw c.fill.ensures told.1 }
