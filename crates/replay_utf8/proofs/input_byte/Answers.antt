-- A place in the unit is below the unit's size, which is small. Assumes nothing.
use native.Mathlib.Nat.{mod-lt}
use native.Mathlib.Omega.{arith}
use Rattle.replay_utf8.proofs.input_byte.Goals as goal

pub overflow_add-i : goal.overflow_add-i
overflow_add-i c = omega (arith, mod-lt c.args.i {m = c.small-unit.result} (omega arith))
