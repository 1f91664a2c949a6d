-- What an answer shows of each detector beside its ratio (02 [7]: "Each of the score answer's eight ratios now brings the numerator (factor of 8 or 2
-- included), the denominator, and a cut_off mark, which holds exactly if both are above 0 and the ratio is 0"; "In a refusal they are zero and
-- false"); and the same as numbers, the mark as 1 or 0. Which counts a detector has is said elsewhere. That the ratio follows from the three,
-- and that the mark is the cut_off of 01, is proved in proofs/Laws/Shown.
-- Assumes nothing.
use Rattle.std.specs.Prelude.{ℕ, ◌*◌, ◌<◌, ◌≡◌, Bool, true, false, cond, ◌&&◌, ◌||◌, List, [], ◌∷◌, ◌++◌, ltb, eqb, Float}
use Rattle.std.specs.Float.Ieee.{eq}
use Rattle.base.specs.Numbers.{bump}
use Rattle.ratio.specs.declared.Counts.{Counts}
use Rattle.ratio.specs.declared.EightCounts.{EightCounts}
use Rattle.ratio.specs.declared.Fraction.{Fraction}
use Rattle.ratio.specs.declared.Ratios.{Ratios}
use Rattle.ratio.specs.declared.Shown.{Shown}
use Rattle.ratio.specs.declared.EightShown.{EightShown}
use Rattle.ratio.specs.Eight.{DETECTORS, Fractions}
use Rattle.ratio.specs.Rounded.{ZERO, rounded}

-- "which holds exactly if both are above 0 and the ratio is 0"
abbrev pub cut_off : ℕ → ℕ → Float → Bool
cut_off num den ratio = ltb 0 num && ltb 0 den && eq ratio ZERO

unfoldable pub shown : Counts → Float → Shown
shown c ratio = record { num = c.numerator; den = c.denominator; cut = cut_off c.numerator c.denominator ratio }

unfoldable pub eight_shown : EightCounts → Ratios → EightShown
eight_shown c r = record {
  symbols = shown c.symbols r.symbols;
  accents = shown c.accents r.accents;
  unprintable = shown c.unprintable r.unprintable;
  ranges = shown c.ranges r.ranges;
  doubled = shown c.doubled r.doubled;
  words = shown c.words r.words;
  stops = shown c.stops r.stops;
  archaic = shown c.archaic r.archaic;
}

-- "In a refusal they are zero and false"
abbrev pub nothing_shown : Shown
nothing_shown = record { num = 0; den = 0; cut = false }

abbrev pub none_shown : EightShown
none_shown = record {
  symbols = nothing_shown;
  accents = nothing_shown;
  unprintable = nothing_shown;
  ranges = nothing_shown;
  doubled = nothing_shown;
  words = nothing_shown;
  stops = nothing_shown;
  archaic = nothing_shown;
}

-- "The returned ratio is +0.0 when cut off or when the denominator is 0, else the rounded quotient of the two"
abbrev pub ratio_from : Shown → Float
ratio_from s = cond (s.cut || eqb s.den 0) ZERO (rounded (record { num = s.num; den = s.den }))

-- what the three say of the ratio beside them
pub record Tells (s : Shown) (ratio : Float) : Type 0 where
  pub if_marked : s.cut ≡ true → (0 < s.num) × (0 < s.den) × (ratio ≡ ZERO)
  pub marked_if : 0 < s.num → 0 < s.den → ratio ≡ ZERO → s.cut ≡ true
  pub is_ratio : ratio ≡ ratio_from s

-- and of the fraction that demand 3 speaks of: as a number it is the two counts where the mark is false and the denominator above 0, else 0
pub record Shares (s : Shown) (f : Fraction) : Type 0 where
  pub counts : s.cut ≡ false → 0 < s.den → f.num * s.den ≡ s.num * f.den
  pub cut_off_holds : s.cut ≡ true → f.num ≡ 0
  pub over_nothing : s.den ≡ 0 → f.num ≡ 0

-- of all eight
pub record EachTells (e : EightShown) (r : Ratios) : Type 0 where
  pub symbols : Tells e.symbols r.symbols
  pub accents : Tells e.accents r.accents
  pub unprintable : Tells e.unprintable r.unprintable
  pub ranges : Tells e.ranges r.ranges
  pub doubled : Tells e.doubled r.doubled
  pub words : Tells e.words r.words
  pub stops : Tells e.stops r.stops
  pub archaic : Tells e.archaic r.archaic

pub record EachShares (e : EightShown) (f : Fractions) : Type 0 where
  pub symbols : Shares e.symbols f.symbols
  pub accents : Shares e.accents f.accents
  pub unprintable : Shares e.unprintable f.unprintable
  pub ranges : Shares e.ranges f.ranges
  pub doubled : Shares e.doubled f.doubled
  pub words : Shares e.words f.words
  pub stops : Shares e.stops f.stops
  pub archaic : Shares e.archaic f.archaic

-- numbers that are shown of the eight
abbrev pub NUMBERS_SHOWN : ℕ
NUMBERS_SHOWN = 3 * DETECTORS

-- as numbers: numerator, denominator, and 1 where the ratio was cut off
unfoldable pub numbers_of : Shown → List ℕ
numbers_of s = s.num ∷ s.den ∷ bump s.cut ∷ []

-- those of the eight, one behind the other
unfoldable pub shown_numbers : EightShown → List ℕ
shown_numbers e =
    numbers_of e.symbols ++ numbers_of e.accents ++ numbers_of e.unprintable ++ numbers_of e.ranges
    ++ numbers_of e.doubled ++ numbers_of e.words ++ numbers_of e.stops ++ numbers_of e.archaic
