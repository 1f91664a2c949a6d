-- Each return is one of the causes, in their order, or the expansion in the output. Assumes nothing.
use Rattle.base.proofs.Laws.Causes.{handed_on}
use Rattle.class_compact_meaning.proofs.Laws.Calls.{allowed_few, unpack_bad, unpack_short, unpack_done}
use mathlib.Core.Path.{sym, ◌∙◌}
use native.Mathlib.Omega.{arith}
use Rattle.class_compact.proofs.unpack.Goals as goal

pub returns-then-out-n : goal.returns-then-out-n
returns-then-out-n c =
    let told = unpack_short _ _ _ (sym c.bad_compact.ensures ∙ c.in_ok-bad_compact.was) c.if-out-n.true in
    record { value = rw c.refuse.ensures told.0; out_after = told.1 }

pub overflow_cast-result : goal.overflow_cast-result
overflow_cast-result c =
    let few = allowed_few _ _ (sym c.bad_compact.ensures ∙ c.in_ok-bad_compact.was) in omega (arith, few)

pub returns-in_err-bad_compact : goal.returns-in_err-bad_compact
returns-in_err-bad_compact c =
    let told = unpack_bad _ _ _ _ (sym c.bad_compact.ensures ∙ c.in_err-bad_compact.was) in
    record { value = handed_on _ _ c.from_residual.ensures.1 ∙ told.0; out_after = told.1 }

pub returns : goal.returns
returns c =
    let told = unpack_done _ _ _ (sym c.bad_compact.ensures ∙ c.in_ok-bad_compact.was) c.if-out-n.false in
    record { value = told.0; out_after = rw c.unpack_into.ensures.out_after told.1 }
