-- The bytes stored one after the other are the row of Table 3-6. Assumes nothing.
use native.Mathlib.Omega.{arith}
use lib.ListN.{length-set}
use Rattle.utf8_form.proofs.Laws.Sequence.{four_put}
use Rattle.utf8_form.proofs.sequence.four_into.Goals as goal

pub bounds-out-at-2 : goal.bounds-out-at-2
bounds-out-at-2 c = simp length-set (omega (arith, c.requires.2))

pub bounds-out-at-3 : goal.bounds-out-at-3
bounds-out-at-3 c = simp length-set (omega (arith, c.requires.2))

pub bounds-out-at-4 : goal.bounds-out-at-4
bounds-out-at-4 c = simp length-set (omega (arith, c.requires.2))

pub returns : goal.returns
returns c =
    let first = c.as_byte.ensures in
    let second = c.as_byte-2.ensures in
    let third = c.as_byte-3.ensures in
    let fourth = c.as_byte-4.ensures in
    rw (first, second, third, fourth) (four_put _ _ _ c.requires.0 c.requires.2)
