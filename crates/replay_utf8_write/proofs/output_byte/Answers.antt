-- A place in the form of the unit is below its size, which is small. Assumes nothing.
use native.Mathlib.Nat.{mod-lt}
use native.Mathlib.Omega.{arith}
use Rattle.replay_utf8_write.proofs.output_byte.Goals as goal

pub overflow_add-from : goal.overflow_add-from
overflow_add-from c =
    omega (arith, mod-lt c.args.i {m = c.short_word-form.result} (omega arith))
