-- A place among the unit's code points is below their number, which is small. Assumes nothing.
use native.Mathlib.Nat.{mod-lt}
use native.Mathlib.Omega.{arith}
use Rattle.replay_utf8.proofs.output_word.Goals as goal

pub overflow_add-from : goal.overflow_add-from
overflow_add-from c =
    omega (arith, mod-lt c.args.i {m = c.small-points.result} (omega arith))
