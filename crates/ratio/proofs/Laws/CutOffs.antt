-- The crate decides its cut-offs in f32, by a literal; 01 gives each as a fraction. Here each literal stands beside 01's fraction, and what it
-- means that the two decide alike (`DecidesAlike`). That they do: `decides_alike`, and `three_tenths_alike` and its fellows, of every fraction within its bounds and
-- not over 0.
-- Assumes nothing.
use Prim.Native.Nat.{ℕ}
use mathlib.Core.Path.{◌≡◌}
use mathlib.Core.Bool.{not}
use lib.Ieee.{Float, binary32, of_bits, le, lt}
use Rattle.ratio.specs.declared.Fraction.{Fraction}
use Rattle.ratio.specs.Inner.Fraction.{Proper}
use Rattle.ratio.specs.Fraction.{at_least}
use Rattle.ratio.specs.Rounded.{rounded}
use Rattle.ratio.specs.CutOffs.{above, at_most}

-- the crate's literal, and 01's p over q
pub record CutOff : Type 0 where
  pub literal : Float
  pub p : ℕ
  pub q : ℕ

-- symbols: `ratio_of_punctuation >= 0.3`, 01's "0 if below 3/10"; camel case: `<= 0.3`, 01's "up to 3/10"
abbrev pub three_tenths : CutOff
three_tenths = record { literal = of_bits binary32 0x3E99999A; p = 3; q = 10 }

-- accents: `ratio >= 0.35`, 01's "0 if .. below 7/20"
abbrev pub seven_twentieths : CutOff
seven_twentieths = record { literal = of_bits binary32 0x3EB33333; p = 7; q = 20 }

-- ranges: `ratio >= 0.1`, 01's "0 if below 1/10"
abbrev pub one_tenth : CutOff
one_tenth = record { literal = of_bits binary32 0x3DCCCCCD; p = 1; q = 10 }

-- weird words: `> 0.34`, 01's "Accents over 17/50"
abbrev pub seventeen_fiftieths : CutOff
seventeen_fiftieths = record { literal = of_bits binary32 0x3EAE147B; p = 17; q = 50 }

-- alphabet search: `ratio >= 0.2`, 01's "at least 1/5"
abbrev pub one_fifth : CutOff
one_fifth = record { literal = of_bits binary32 0x3E4CCCCD; p = 1; q = 5 }

-- each comparison of a ratio with the literal, in f32, is the one of its fraction with p/q, in whole numbers
pub record DecidesAlike (k : CutOff) : Type 0 where
  pub at_least_holds : (f : Fraction) → Proper f → le k.literal (rounded f) ≡ at_least k.p k.q f
  pub below : (f : Fraction) → Proper f → lt (rounded f) k.literal ≡ not (at_least k.p k.q f)
  pub above : (f : Fraction) → Proper f → lt k.literal (rounded f) ≡ above k.p k.q f
  pub at_most_here : (f : Fraction) → Proper f → le (rounded f) k.literal ≡ at_most k.p k.q f
