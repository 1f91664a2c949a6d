-- Each count is an f32 exactly, so the quotient of the two is the fraction, rounded once. Assumes nothing.
use Prim.Native.Nat.{◌^◌}
use native.Mathlib.Omega.{arith}
use lib.Dec.{le→leb}
use lib.Ieee.{in_float}
use Rattle.ratio.proofs.Laws.Rounded.{rounded_is}
use Rattle.ratio.proofs.rounding.rounded.Goals as goal

pub int_to_float-result : goal.int_to_float-result
unfolding in_float
int_to_float-result c = le→leb c.args.f.num (2 ^ 24) (omega arith)

pub int_to_float-result-2 : goal.int_to_float-result-2
unfolding in_float
int_to_float-result-2 c = le→leb c.args.f.den (2 ^ 24) (omega arith)

pub returns : goal.returns
returns c = rounded_is c.args.f c.requires
