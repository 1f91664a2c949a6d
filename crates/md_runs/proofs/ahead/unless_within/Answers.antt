-- Past all only where both bounds hold: what does not exceed high - low, added to low, does not wrap. Assumes nothing.
use Rattle.std.proofs.Common.{◌≡◌, ℕ, ◌+◌, ◌-◌, ◌%◌, ◌^◌, ◌<◌, ◌≤◌, sym, ◌∙◌, mod-eq_of_lt, arith}
use Rattle.md_runs.proofs.ahead.unless_within.Goals as goal

unwrapped : (w p low high : ℕ) → (w + low) % 2 ^ 32 ≡ p → w ≤ high - low → low ≤ high → high < 2 ^ 32 → w + low ≡ p
unwrapped w p low high e a b h = sym (mod-eq_of_lt (omega (arith, a, b, h))) ∙ e

pub returns-then-high-low : goal.returns-then-high-low
returns-then-high-low c = record { least = λ h. absurd (omega arith); most = λ h. absurd (omega arith) }

pub returns : goal.returns
returns c =
    let d = unwrapped _ _ _ _ c.wrapping_sub_u32.ensures.value c.if-high-low.false c.requires c.ranges.high.fits in
    record { least = λ h. omega (arith, d); most = λ h. omega (arith, d, c.if-high-low.false, c.requires) }
