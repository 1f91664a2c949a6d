-- Each length has one of three periods. Assumes nothing.
use borrow.Author.Tests.{le-leb, lt-leb}
use native.Mathlib.Omega.{arith}
use Rattle.md_meaning.specs.Text.{period}
use Rattle.md_second.proofs.scan.period_of.Goals as goal

pub returns-then-length-le-SHORT_LENGTH : goal.returns-then-length-le-SHORT_LENGTH
unfolding period
returns-then-length-le-SHORT_LENGTH c = record { is = simp (le-leb _ _ c.if-length-le-SHORT_LENGTH.true); positive = omega arith }

pub returns-then-length-le-MIDDLE_LENGTH : goal.returns-then-length-le-MIDDLE_LENGTH
unfolding period
returns-then-length-le-MIDDLE_LENGTH c = record { is = simp (lt-leb _ _ c.if-length-le-SHORT_LENGTH.false, le-leb _ _ c.if-length-le-MIDDLE_LENGTH.true); positive = omega arith }

pub returns : goal.returns
unfolding period
returns c = record { is = simp (lt-leb _ _ c.if-length-le-SHORT_LENGTH.false, lt-leb _ _ c.if-length-le-MIDDLE_LENGTH.false); positive = omega arith }
