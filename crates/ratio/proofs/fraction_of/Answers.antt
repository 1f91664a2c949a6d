-- The branch taken is the one that the definition takes. Assumes nothing.
use Rattle.ratio.specs.Fraction.{fraction_of}
use Rattle.ratio.proofs.fraction_of.Goals as goal

pub returns-then-c : goal.returns-then-c
unfolding fraction_of
returns-then-c c = simp c.if-c.true

pub returns-else-c : goal.returns-else-c
unfolding fraction_of
returns-else-c c = simp c.if-c.false
