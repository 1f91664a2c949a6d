-- The tests are those of Table 3-7's row of two bytes. Assumes nothing.
use native.Mathlib.Omega.{arith}
use Rattle.utf8_taking.proofs.Laws.Tests.{two_tests}
use Rattle.utf8_taking.proofs.two_stands.Goals as goal

pub returns : goal.returns
returns c = two_tests _ _ (omega (arith, c.requires))
