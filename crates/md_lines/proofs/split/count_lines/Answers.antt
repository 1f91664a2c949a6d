-- No bytes, a last byte that ends its line, and one that does not. Assumes nothing.
use mathlib.Core.Path.{sym}
use native.Mathlib.Omega.{arith}
use Rattle.md_lines.proofs.Loops.Counting.{none_counted, last_ends, last_open, ends_below}
use Rattle.md_lines.proofs.split.count_lines.Goals as goal

pub returns-in-None : goal.returns-in-None
returns-in-None c = none_counted _ (sym c.in-None.ensures.value)

pub returns-in-Some-eq10 : goal.returns-in-Some-eq10
returns-in-Some-eq10 c = last_ends _ _ _ c.count_ends-ends.ensures (sym c.in-Some-eq10.ensures.value) c.in-Some-eq10.field-0-test

pub overflow_add-result : goal.overflow_add-result
overflow_add-result c =
    omega (
      arith,
      ends_below _ _ _ c.count_ends-ends.ensures
          c.requires,
    )

pub returns-in-Some : goal.returns-in-Some
returns-in-Some c = last_open _ _ _ c.count_ends-ends.ensures (sym c.in-Some.ensures.value) c.in-Some.field-0-test.1
