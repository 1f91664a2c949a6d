-- The eight detectors (01, "Eight detectors": "The order is that of `md.rs`"), each fed every character: the start, one character, and the
-- eight counts. Each detector is defined in a file of its own; which characters it takes stands there. The laws stand in proofs/Loops/Detectors.
-- Assumes nothing.
use Rattle.std.specs.Prelude.{ℕ, Bool}
use Rattle.classes.specs.declared.Class.{Class}
use Rattle.ratio.specs.declared.EightCounts.{EightCounts}
use Rattle.ratio.specs.declared.Ratios.{Ratios}
use Rattle.ratio.specs.Eight.{Fractions, fractions_of, ratios as ratios_of}
use Rattle.md_eight.specs.declared.Detectors.{Detectors}
use Rattle.md_counts.specs.TooManySymbolOrPunctuation as symbols
use Rattle.md_counts.specs.TooManyAccentuated as accents
use Rattle.md_counts.specs.Unprintable as unprintable
use Rattle.md_neighbours.specs.SuspiciousRange as ranges
use Rattle.md_neighbours.specs.SuspiciousDuplicateAccent as doubled
use Rattle.md_words.specs.SuperWeirdWord as words
use Rattle.md_counts.specs.CjkInvalidStop as stops
use Rattle.md_words.specs.ArchaicUpperLower as archaic

-- nothing was fed
unfoldable pub start : Detectors
start =
    record {
      symbols = symbols.start;
      accents = accents.start;
      unprintable = unprintable.start;
      ranges = ranges.start;
      doubled = doubled.start;
      words = words.start;
      stops = stops.start;
      archaic = archaic.start;
    }

-- the range of the last character that the ranges detector remembers, 0 where there is none
abbrev pub last_range : Detectors → ℕ
last_range s = s.ranges.last

-- one character, and whether its range after the last is suspicious
unfoldable pub feed : Detectors → Class → Bool → Detectors
feed s c suspicious =
    record {
      symbols = symbols.feed s.symbols c;
      accents = accents.feed s.accents c;
      unprintable = unprintable.feed s.unprintable c;
      ranges = ranges.feed s.ranges c suspicious;
      doubled = doubled.feed s.doubled c;
      words = words.feed s.words c;
      stops = stops.feed s.stops c;
      archaic = archaic.feed s.archaic c;
    }

-- the counts of each
unfoldable pub counts : Detectors → EightCounts
counts s =
    record {
      symbols = symbols.counts s.symbols;
      accents = accents.counts s.accents;
      unprintable = unprintable.counts s.unprintable;
      ranges = ranges.counts s.ranges;
      doubled = doubled.counts s.doubled;
      words = words.counts s.words;
      stops = stops.counts s.stops;
      archaic = archaic.counts s.archaic;
    }

-- the eight fractions, and the eight ratios; their sum is `sum` of crate ratio
abbrev pub fractions : Detectors → Fractions
fractions s = fractions_of (counts s)

abbrev pub ratios : Detectors → Ratios
ratios s = ratios_of (fractions s)
