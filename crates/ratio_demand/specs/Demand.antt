-- Demand 3 (01, "Promises with no slack": "Demand 3 is stated in whole numbers: a finite f32 is a signed whole number of parts of 2^-149,
-- a fraction is its two counts (0 over 1 if cut off or over 0), and each inequality is multiplied out by 2^149 and the eight
-- denominators"). E is the exact mess value, the sum of the eight fractions; s is the score and t the threshold, both finite f32. Which
-- fractions a text has is said elsewhere. That the sum of the rounded ratios meets the three inequalities is proved in proofs/Laws/Demand.
-- Assumes nothing.
use Rattle.std.specs.Prelude.{ℕ, ◌+◌, ◌-◌, ◌*◌, ◌^◌, ◌≤◌, ℤ, pos, nat_abs, ◌*ℤ◌, ◌-ℤ◌, ◌≤ℤ◌, ◌<ℤ◌, Float}
use Rattle.ratio.specs.Eight.{Fractions}
use Rattle.ratio.specs.Parts.{ONE, parts}

-- the product of the eight denominators
unfoldable pub denominators : Fractions → ℕ
denominators f =
    f.symbols.den * f.accents.den * f.unprintable.den * f.ranges.den * f.doubled.den * f.words.den * f.stops.den * f.archaic.den

-- E times that product: each numerator times the seven other denominators
unfoldable pub numerators : Fractions → ℕ
numerators f =
    f.symbols.num * f.accents.den * f.unprintable.den * f.ranges.den * f.doubled.den * f.words.den * f.stops.den * f.archaic.den
    + f.symbols.den * f.accents.num * f.unprintable.den * f.ranges.den * f.doubled.den * f.words.den * f.stops.den * f.archaic.den
    + f.symbols.den * f.accents.den * f.unprintable.num * f.ranges.den * f.doubled.den * f.words.den * f.stops.den * f.archaic.den
    + f.symbols.den * f.accents.den * f.unprintable.den * f.ranges.num * f.doubled.den * f.words.den * f.stops.den * f.archaic.den
    + f.symbols.den * f.accents.den * f.unprintable.den * f.ranges.den * f.doubled.num * f.words.den * f.stops.den * f.archaic.den
    + f.symbols.den * f.accents.den * f.unprintable.den * f.ranges.den * f.doubled.den * f.words.num * f.stops.den * f.archaic.den
    + f.symbols.den * f.accents.den * f.unprintable.den * f.ranges.den * f.doubled.den * f.words.den * f.stops.num * f.archaic.den
    + f.symbols.den * f.accents.den * f.unprintable.den * f.ranges.den * f.doubled.den * f.words.den * f.stops.den * f.archaic.num

-- E, and an f32, each multiplied out by 2 ^ 149 and the eight denominators
abbrev pub exact : Fractions → ℕ
exact f = numerators f * ONE

abbrev pub multiplied : Float → Fractions → ℤ
multiplied x f = parts x *ℤ pos (denominators f)

-- 2 ^ 24 * |s - E| <= 9 * E
abbrev pub Near : Float → Fractions → Type 0
Near s f = 2 ^ 24 * nat_abs (multiplied s f -ℤ pos (exact f)) ≤ 9 * exact f

-- 2 ^ 24 * t <= (2 ^ 24 + 9) * E
abbrev pub Reached : Float → Fractions → Type 0
Reached t f = (pos (2 ^ 24) *ℤ multiplied t f) ≤ℤ pos ((2 ^ 24 + 9) * exact f)

-- (2 ^ 24 - 9) * E < 2 ^ 24 * t
abbrev pub Missed : Float → Fractions → Type 0
Missed t f = pos ((2 ^ 24 - 9) * exact f) <ℤ (pos (2 ^ 24) *ℤ multiplied t f)
