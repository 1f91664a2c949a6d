-- A bin is the quotient "rounded down" (02 [13]; `parts_down`): so many times the denominator are not above 64 times the numerator, and once more are. The
-- product is a number of any size.
-- Assumes nothing.
use Prim.Native.Nat.{ℕ, ◌+◌, ◌*◌, ◌<◌, ◌≤◌}
use native.Mathlib.Nat.{div-add-mod', mod-lt}
use native.Mathlib.Omega.{arith}
use Rattle.md_report_meaning.specs.Bins.{parts}

pub parts_down : (numerator denominator : ℕ) → 0 < denominator
    → (parts numerator denominator * denominator ≤ 64 * numerator) × (64 * numerator < (parts numerator denominator + 1) * denominator)
unfolding parts
parts_down numerator denominator some =
    let whole = div-add-mod' (64 * numerator) denominator in
    (omega (arith, whole), omega (arith, whole, mod-lt (64 * numerator) some))
