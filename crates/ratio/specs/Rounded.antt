-- A ratio is the f32 of a fraction, and a sum of two f32 is rounded once (01, "Eight detectors": "each operation rounded once"). The eight
-- ratios and their sum are in Eight; which fractions a text has is said elsewhere. The laws stand in proofs/Laws/Rounded.
-- Assumes nothing.
use Rattle.std.specs.Prelude.{ℕ, false, Float}
use Rattle.std.specs.Float.{binary32}
use Rattle.std.specs.Float.Ieee.{round, add, of_bits, to_bits}
use Rattle.ratio.specs.declared.Fraction.{Fraction}

-- the f32 of a fraction: the exact quotient, rounded once
unfoldable pub rounded : Fraction → Float
rounded f = round binary32 false f.num f.den

infixl 60 ◌⊕◌
-- two f32 added, rounded once
abbrev pub ◌⊕◌ : Float → Float → Float
x ⊕ y = add binary32 x y

-- +0.0: what a refusal gives
abbrev pub ZERO : Float
ZERO = of_bits binary32 0

-- a float as a number
abbrev pub bits_of : Float → ℕ
bits_of x = to_bits binary32 x
