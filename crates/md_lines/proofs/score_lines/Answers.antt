-- Each return is one of the causes, in their order, or the rows behind them. Assumes nothing.
use mathlib.Core.Path.{sym, ◌∙◌}
use native.Mathlib.Omega.{arith}
use Rattle.base.proofs.Laws.Causes.{handed_on}
use Rattle.md_lines_meaning.proofs.Laws.Lines.{lines_below}
use Rattle.md_lines_meaning.proofs.Laws.Burst.{over, faulty, no_room_lem, scored}
use Rattle.md_lines.proofs.score_lines.Goals as goal

pub returns-then-bytes-gt-LONGEST_BURST : goal.returns-then-bytes-gt-LONGEST_BURST
returns-then-bytes-gt-LONGEST_BURST c =
    let told = over _ _ _ _ _ c.if-bytes-gt-LONGEST_BURST.true in
    record { value = rw c.refuse.ensures told.0; out_after = told.1 }

pub overflow_mul-count : goal.overflow_mul-count
overflow_mul-count c =
    let few = lines_below _ _ _ c.count_lines-count.ensures c.if-bytes-gt-LONGEST_BURST.false in
    omega arith

pub returns-then-out-count : goal.returns-then-out-count
returns-then-out-count c =
    let told = no_room_lem _ _ _ _ _ c.if-bytes-gt-LONGEST_BURST.false (sym c.check_lent.ensures ∙ c.in_ok-check_lent.was) _
    c.count_lines-count.ensures c.if-out-count.true in
    record { value = rw c.refuse-then-out-count.ensures told.0; out_after = told.1 }

pub put_rows-requires : goal.put_rows-requires
put_rows-requires c = (
  c.if-bytes-gt-LONGEST_BURST.false,
  sym c.check_lent.ensures ∙ c.in_ok-check_lent.was,
  omega (arith, c.count_lines-count.ensures, c.if-out-count.false),
)

pub overflow_cast-result : goal.overflow_cast-result
overflow_cast-result c =
    let few = lines_below _ _ _ c.count_lines-count.ensures c.if-bytes-gt-LONGEST_BURST.false in
    omega arith

pub returns-in_err-check_lent : goal.returns-in_err-check_lent
returns-in_err-check_lent c =
    let told = faulty _ _ _ _ _ c.if-bytes-gt-LONGEST_BURST.false _ (sym c.check_lent.ensures ∙ c.in_err-check_lent.was) in
    record { value = handed_on _ _ c.from_residual.ensures.1 ∙ told.0; out_after = told.1 }

pub returns : goal.returns
returns c =
    let told = scored _ _ _ _ _ c.if-bytes-gt-LONGEST_BURST.false (sym c.check_lent.ensures ∙ c.in_ok-check_lent.was) _
    c.count_lines-count.ensures c.if-out-count.false in
    record { value = told.0; out_after = rw c.put_rows.ensures told.1 }
