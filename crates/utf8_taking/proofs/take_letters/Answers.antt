-- As many sequences as stand, and an ASCII byte behind them. Assumes nothing.
use native.Mathlib.Omega.{arith}
use Rattle.utf8_taking.proofs.Loops.Taking.{taken_none, taken_lone}
use Rattle.utf8_taking.proofs.take_letters.Goals as goal

pub returns-then-bytes-from : goal.returns-then-bytes-from
returns-then-bytes-from c = taken_none _ _ _ _ c.requires.inside

pub returns-then-bytes-from-lt-NO_ASCII : goal.returns-then-bytes-from-lt-NO_ASCII
returns-then-bytes-from-lt-NO_ASCII c = taken_none _ _ _ _ c.requires.inside

pub returns-then-bytes-at-ge-NO_ASCII : goal.returns-then-bytes-at-ge-NO_ASCII
returns-then-bytes-at-ge-NO_ASCII c =
    c.put_twos.ensures _ c.twos_ahead-many.ensures

pub returns : goal.returns
returns c =
    let asked = c.requires in
    let many = c.twos_ahead-many.ensures in
    let long = c.if-bytes-from.false in
    taken_lone _ _ _ _ _ _ _ (c.put_twos.ensures _ many) asked (omega (arith, long)) (omega (arith, long, many.few)) c.if-bytes-at-ge-NO_ASCII.false _ c.wide.ensures.is
