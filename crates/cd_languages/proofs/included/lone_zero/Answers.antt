-- One number, and it is 0.
-- Assumes nothing.
use borrow.Author.Tests.{ne_eqb, eq-eqb}
use Rattle.cd_languages.specs.Included.{lone_zero}
use Rattle.cd_languages.proofs.included.lone_zero.Goals as goal

pub returns-then-included-ne1 : goal.returns-then-included-ne1
unfolding lone_zero
returns-then-included-ne1 c = rw (ne_eqb _ _ c.if-included-ne1.true)

pub returns : goal.returns
unfolding lone_zero
returns c = rw (eq-eqb _ _ c.if-included-ne1.false)
