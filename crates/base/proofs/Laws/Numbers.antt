-- Laws of numbers made of tests.
-- Assumes nothing.
use Prim.Native.Nat.{◌≤◌}
use mathlib.Core.Bool.{Bool, true, false}
use native.Mathlib.Omega.{arith}
use Rattle.base.specs.Numbers.{bump}

pub bump_small : (b : Bool) → bump b ≤ 1
bump_small true = omega arith
bump_small false = omega arith
