-- Each branch answers the smaller. Assumes nothing.
use native.Mathlib.Omega.{arith}
use Rattle.md_text.proofs.nearer.Goals as goal

pub returns-then-a-b : goal.returns-then-a-b
returns-then-a-b c = record { first = omega arith; second = omega (arith, c.if-a-b.true); some = λ x h l. h }

pub returns : goal.returns
returns c = record { first = c.if-a-b.false; second = omega arith; some = λ x h l. l }
