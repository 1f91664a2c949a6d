-- "the first detector, in 01's order, with the greatest ratio" and "If the greatest ratio is 0 it says so" (02 [8]): of the eight ratios that the score
-- answers. These f32 are compared, and not the fractions that they are rounded from, so that of two fractions that round alike the first detector is named.
-- The laws stand in proofs/Laws/Greatest.
-- Assumes nothing.
use Rattle.std.specs.Prelude.{ℕ, ◌+◌, Bool, cond, Float, get_or}
use Rattle.std.specs.Float.Ieee.{le}
use Rattle.base.specs.First.{first, each}
use Rattle.ratio.specs.declared.Ratios.{Ratios}
use Rattle.ratio.specs.Rounded.{ZERO}
use Rattle.ratio.specs.Eight.{DETECTORS, list_ratios}

-- no detector
abbrev pub NO_DETECTOR : ℕ
NO_DETECTOR = 0

-- the eight by their index, in md.rs's order
abbrev pub ratio_at : Ratios → ℕ → Float
ratio_at r k = get_or (list_ratios r) k ZERO

-- x is at least each of the eight
unfoldable pub at_least_all : Float → Ratios → Bool
at_least_all x r = each (λ k. le (ratio_at r k) x) DETECTORS

-- the index of the first that is at least each of them
unfoldable pub first_greatest : Ratios → ℕ
first_greatest r = first (λ k. at_least_all (ratio_at r k) r) DETECTORS

-- its number, 1 to 8; none where the greatest is 0
unfoldable pub detector_of : Ratios → ℕ
detector_of r = cond (at_least_all ZERO r) NO_DETECTOR (first_greatest r + 1)
