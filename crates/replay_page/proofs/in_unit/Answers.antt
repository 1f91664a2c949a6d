-- A place in the unit is below the unit's size, which is small. Assumes nothing.
use Prim.Native.Nat.{◌%◌}
use native.Mathlib.Nat.{mod-lt}
use native.Mathlib.Omega.{arith}
use Rattle.replay_page.proofs.in_unit.Goals as goal

pub returns : goal.returns
returns c = omega (arith, mod-lt c.args.i {m = c.word.result % 1024} (omega arith))
