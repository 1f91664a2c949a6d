-- Each branch is one of the definition's two. Assumes nothing.
use Rattle.std.proofs.Common.{eq-eqb, ne_eqb}
use Rattle.md_runs.proofs.own_base.Goals as goal

pub returns-then-base-eq0 : goal.returns-then-base-eq0
returns-then-base-eq0 c = rw (eq-eqb _ _ c.if-base-eq0.true)

pub returns : goal.returns
returns c = rw (ne_eqb _ _ c.if-base-eq0.false)
