-- One detector by itself (01, "Marked and run": "of one detector fed just these characters without the newline"), for those that the marked
-- cases name: its ratio after the characters, by the detector's own definitions.
-- Assumes nothing.
use Rattle.std.specs.Prelude.{ℕ, List, [], ◌∷◌, Float}
use Rattle.classes.specs.declared.Class.{Class}
use Rattle.classes.specs.Pairs.{suspicious}
use Rattle.ratio.specs.declared.Counts.{Counts}
use Rattle.ratio.specs.Fraction.{fraction_of}
use Rattle.ratio.specs.Rounded.{rounded}
use Rattle.md_counts.specs.TooManySymbolOrPunctuation as symbols
use Rattle.md_counts.specs.TooManyAccentuated as accents
use Rattle.md_neighbours.specs.SuspiciousRange as ranges
use Rattle.md_counts.specs.CjkInvalidStop as stops
use Rattle.md_words.specs.ArchaicUpperLower as archaic

pub data Detector : Type 0 where
  Symbols Accents Ranges Stops Archaic : Detector

-- a state after these characters
abbrev pub after_all : {S : Type 0} → (S → Class → S) → S → List Class → S
after_all feed s [] = s
after_all feed s (c ∷ cs) = after_all feed (feed s c) cs

-- the counts of a detector after these characters; the ranges detector is told what the pair table says
unfoldable pub counts_after : Detector → List ℕ → List Class → Counts
counts_after Symbols pairs cs = symbols.counts (after_all symbols.feed symbols.start cs)
counts_after Accents pairs cs = accents.counts (after_all accents.feed accents.start cs)
counts_after Ranges pairs cs = ranges.counts (after_all (λ s c. ranges.feed s c (suspicious pairs s.last c.range)) ranges.start cs)
counts_after Stops pairs cs = stops.counts (after_all stops.feed stops.start cs)
counts_after Archaic pairs cs = archaic.counts (after_all archaic.feed archaic.start cs)

unfoldable pub ratio_of : Detector → List ℕ → List Class → Float
ratio_of d pairs cs = rounded (fraction_of (counts_after d pairs cs))
