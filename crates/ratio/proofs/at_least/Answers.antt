-- Both products fit, since the counts and the cut-off are small; their comparison is the definition. Assumes nothing.
use mathlib.Core.Path.{refl}
use native.Mathlib.Nat.{mul-le-mul}
use native.Mathlib.Omega.{arith}
use Rattle.ratio.specs.Fraction.{at_least}
use Rattle.ratio.proofs.at_least.Goals as goal

pub overflow_mul-result : goal.overflow_mul-result
overflow_mul-result c = omega (arith, mul-le-mul c.requires.1 c.requires.0.den)

pub overflow_mul-result-2 : goal.overflow_mul-result-2
overflow_mul-result-2 c = omega (arith, mul-le-mul c.requires.2 c.requires.0.num)

pub returns : goal.returns
unfolding at_least
returns c = refl
