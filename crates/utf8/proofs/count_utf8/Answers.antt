-- One law for each return, in 01's order of causes. Assumes nothing.
use mathlib.Core.Path.{sym, ◌∙◌}
use native.Mathlib.Omega.{arith}
use Rattle.utf8_meaning.proofs.Laws.Answer.{fault_small, over_bytes, ill_formed_lem, over_points, counts}
use Rattle.utf8.proofs.count_utf8.Goals as goal

pub returns-then-bytes-gt-LONGEST_BYTES : goal.returns-then-bytes-gt-LONGEST_BYTES
returns-then-bytes-gt-LONGEST_BYTES c = c.refuse.ensures ∙ over_bytes _ c.if-bytes-gt-LONGEST_BYTES.true

pub overflow_cast-place : goal.overflow_cast-place
overflow_cast-place c = let h = fault_small _ _ (sym c.in-Err.is ∙ c.measure.ensures) in omega arith

pub returns-then-count-gt-LONGEST_TEXT : goal.returns-then-count-gt-LONGEST_TEXT
returns-then-count-gt-LONGEST_TEXT c =
    c.refuse-then-count-gt-LONGEST_TEXT.ensures ∙ over_points _ c.if-bytes-gt-LONGEST_BYTES.false _ (sym c.in-Ok.is ∙ c.measure.ensures) c.if-count-gt-LONGEST_TEXT.true

pub returns-in-Err : goal.returns-in-Err
returns-in-Err c =
    c.refuse-in-Err.ensures ∙ ill_formed_lem _ c.if-bytes-gt-LONGEST_BYTES.false _ (sym c.in-Err.is ∙ c.measure.ensures)

pub returns-else-count-gt-LONGEST_TEXT : goal.returns-else-count-gt-LONGEST_TEXT
returns-else-count-gt-LONGEST_TEXT c =
    counts _ c.if-bytes-gt-LONGEST_BYTES.false _ (sym c.in-Ok.is ∙ c.measure.ensures) c.if-count-gt-LONGEST_TEXT.false
