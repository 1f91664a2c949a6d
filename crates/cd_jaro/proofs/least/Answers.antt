-- The test that picks the answer is the definition's. Assumes nothing.
use native.Mathlib.Omega.{arith}
use borrow.Author.Tests.{lt-ltb, le-ltb}
use Rattle.cd_jaro.proofs.least.Goals as goal

pub returns-then-a-b : goal.returns-then-a-b
returns-then-a-b c = record { is = rw (lt-ltb _ _ c.if-a-b.true); small = omega arith }

pub returns-else-a-b : goal.returns-else-a-b
returns-else-a-b c = record { is = rw (le-ltb _ _ c.if-a-b.false); small = omega arith }
