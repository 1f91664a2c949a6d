-- The eight detectors' fractions, their ratios, the sum and the bits of these, all in the order of md.rs (01, "Eight detectors": "The order is
-- that of `md.rs`"; "The score answer holds eight ratios and their sum as f32, added in order, each operation rounded once"; a refusal's are
-- +0.0). What has a part for each of the eight stands here. Which fractions a text has is said elsewhere.
-- Assumes nothing.
use Rattle.std.specs.Prelude.{ℕ, List, [], ◌∷◌, map, Float}
use Rattle.ratio.specs.declared.Fraction.{Fraction}
use Rattle.ratio.specs.declared.EightCounts.{EightCounts}
use Rattle.ratio.specs.declared.Ratios.{Ratios}
use Rattle.ratio.specs.Fraction.{fraction_of}
use Rattle.ratio.specs.Rounded.{rounded, ◌⊕◌, ZERO, bits_of}

-- how many detectors there are
abbrev pub DETECTORS : ℕ
DETECTORS = 8

pub record Fractions : Type 0 where
  pub symbols : Fraction
  pub accents : Fraction
  pub unprintable : Fraction
  pub ranges : Fraction
  pub doubled : Fraction
  pub words : Fraction
  pub stops : Fraction
  pub archaic : Fraction

-- the fractions of the counts
unfoldable pub fractions_of : EightCounts → Fractions
fractions_of c = record {
  symbols = fraction_of c.symbols;
  accents = fraction_of c.accents;
  unprintable = fraction_of c.unprintable;
  ranges = fraction_of c.ranges;
  doubled = fraction_of c.doubled;
  words = fraction_of c.words;
  stops = fraction_of c.stops;
  archaic = fraction_of c.archaic;
}

-- the eight ratios
unfoldable pub ratios : Fractions → Ratios
ratios f = record {
  symbols = rounded f.symbols;
  accents = rounded f.accents;
  unprintable = rounded f.unprintable;
  ranges = rounded f.ranges;
  doubled = rounded f.doubled;
  words = rounded f.words;
  stops = rounded f.stops;
  archaic = rounded f.archaic;
}

-- from the first ratio on, in md.rs's order
unfoldable pub sum : Ratios → Float
sum r = r.symbols ⊕ r.accents ⊕ r.unprintable ⊕ r.ranges ⊕ r.doubled ⊕ r.words ⊕ r.stops ⊕ r.archaic

-- eight times +0.0: what a refusal gives
abbrev pub no_ratios : Ratios
no_ratios = record {
  symbols = ZERO;
  accents = ZERO;
  unprintable = ZERO;
  ranges = ZERO;
  doubled = ZERO;
  words = ZERO;
  stops = ZERO;
  archaic = ZERO;
}

abbrev pub list_ratios : Ratios → List Float
list_ratios r = r.symbols ∷ r.accents ∷ r.unprintable ∷ r.ranges ∷ r.doubled ∷ r.words ∷ r.stops ∷ r.archaic ∷ []

unfoldable pub bits : Ratios → List ℕ
bits r = map bits_of (list_ratios r)
