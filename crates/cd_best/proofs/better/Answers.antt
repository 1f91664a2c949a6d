-- The two tests are the definition's.
-- Assumes nothing.
use Rattle.cd_best.proofs.better.Goals as goal

pub returns-then-new-old : goal.returns-then-new-old
returns-then-new-old c = simp (c.if-was.true, c.if-new-old.true)

pub returns-else-new-old : goal.returns-else-new-old
returns-else-new-old c = simp (c.if-was.true, c.if-new-old.false)
