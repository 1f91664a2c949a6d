-- The test is the definition's.
-- Assumes nothing.
use native.Mathlib.Omega.{arith}
use Rattle.cd_best.proofs.is_sufficient.Goals as goal

pub returns-then-score : goal.returns-then-score
returns-then-score c = (simp c.if-score.true, omega arith)

pub returns : goal.returns
returns c = (simp c.if-score.false, omega arith)
