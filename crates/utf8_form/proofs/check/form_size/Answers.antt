-- The ones add up to the length of the row of Table 3-6 (`size_is`). Assumes nothing.
use native.Mathlib.Omega.{arith}
use Rattle.utf8_form.proofs.Laws.Sequence.{size_is}
use Rattle.utf8_form.proofs.check.form_size.Goals as goal

pub returns : goal.returns
returns c =
    let first = c.one.ensures in
    let second = c.one-2.ensures in
    let third = c.one-3.ensures in
    record { is = rw (first.is, second.is, third.is) (size_is _); small = omega (arith, first.small, second.small, third.small) }
