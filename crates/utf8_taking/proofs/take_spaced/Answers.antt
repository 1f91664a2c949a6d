-- The sequence stands behind the ASCII byte, or over its place where there is none. Assumes nothing.
use mathlib.Core.Path.{sym, ◌∙◌}
use native.Mathlib.Omega.{arith}
use Rattle.utf8_meaning.proofs.Laws.Places.{yes, at_three}
use Rattle.utf8_taking.proofs.Loops.Taking.{taken_none, taken_spaced, place_behind}
use Rattle.utf8_taking.proofs.take_spaced.Goals as goal

pub returns-then-bytes-at-ne14 : goal.returns-then-bytes-at-ne14
returns-then-bytes-at-ne14 c = taken_none _ _ _ _ (omega (arith, c.requires.0.left))

pub returns-then-not-is_three : goal.returns-then-not-is_three
returns-then-not-is_three c = taken_none _ _ _ _ (omega (arith, c.requires.0.left))

pub bounds-out-to-2 : goal.bounds-out-to-2
bounds-out-to-2 c =
    let p = c.requires in
    place_behind _ _ _ _ p.0 _ _ (omega (arith, p.1, c.beyond_ascii-more.ensures.small))

pub returns : goal.returns
returns c =
    let p = c.requires in
    let lead = c.if-bytes-at-ne14.false in
    rw (c.three_at.ensures, c.wide.ensures.is)
    (taken_spaced _ _ _ _ p.0 _ _ c.beyond_ascii-more.ensures
    (yes _ (at_three _ _ (omega (arith, p.1, c.beyond_ascii-more.ensures.small)) (omega (arith, lead)) (omega (arith, lead)))
    (sym c.is_three.ensures ∙ c.if-not-is_three.false)))
