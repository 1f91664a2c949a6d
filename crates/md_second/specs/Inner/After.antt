-- Words of inner contracts: the eight detectors' states after i characters, of which lists say what they are. Each is the detector's own definition, fed
-- with what it reads of a character; `eight_after` has them together. No public promise rests on them: that they are the scan's states is a law
-- (proofs/Laws/Same).
-- Assumes nothing.
use Rattle.std.specs.Prelude.{ℕ, zero, suc, Bool, not, ◌&&◌, List, ltb, eqb, get_or}
use Rattle.base.specs.Flags.{has, UNPRINTABLE, COMMON_SAFE}
use Rattle.classes.specs.declared.Class.{Class}
use Rattle.classes.specs.Pairs.{suspicious}
use Rattle.md_counts.specs.declared.too_many_symbol_or_punctuation.TooManySymbolOrPunctuation.{TooManySymbolOrPunctuation}
use Rattle.md_counts.specs.declared.too_many_accentuated.TooManyAccentuated.{TooManyAccentuated}
use Rattle.md_counts.specs.declared.unprintable.Unprintable.{Unprintable}
use Rattle.md_counts.specs.declared.cjk_invalid_stop.CjkInvalidStop.{CjkInvalidStop}
use Rattle.md_neighbours.specs.declared.suspicious_range.SuspiciousRange.{SuspiciousRange}
use Rattle.md_neighbours.specs.declared.suspicious_duplicate_accent.SuspiciousDuplicateAccent.{SuspiciousDuplicateAccent}
use Rattle.md_words.specs.declared.super_weird_word.SuperWeirdWord.{SuperWeirdWord}
use Rattle.md_words.specs.declared.archaic_upper_lower.ArchaicUpperLower.{ArchaicUpperLower}
use Rattle.md_eight.specs.declared.Detectors.{Detectors}
use Rattle.md_counts.specs.TooManySymbolOrPunctuation as symbols
use Rattle.md_counts.specs.TooManyAccentuated as accents
use Rattle.md_counts.specs.Unprintable as unprintable
use Rattle.md_neighbours.specs.SuspiciousRange as ranges
use Rattle.md_neighbours.specs.SuspiciousDuplicateAccent as doubled
use Rattle.md_words.specs.SuperWeirdWord as words
use Rattle.md_counts.specs.CjkInvalidStop as stops
use Rattle.md_words.specs.ArchaicUpperLower as archaic

-- a character, of which only so much is said; what a detector does not read is 0
abbrev pub seen : ℕ → ℕ → ℕ → ℕ → Class
seen point flags range base = record { point = point; flags = flags; range = range; base = base; lower = 0 }

abbrev pub flagged : List ℕ → ℕ → Class
flagged flags i = seen 0 (get_or flags i 0) 0 0

-- a printable character that may add to more than n, after so many printable ones of which the last is this
unfoldable pub is_mark : ℕ → ℕ → ℕ → ℕ → Bool
is_mark printed last point f = not (has f UNPRINTABLE) && (not (ltb 0 printed && eqb point last) && not (has f COMMON_SAFE))

unfoldable pub symbols_after : List ℕ → List ℕ → ℕ → TooManySymbolOrPunctuation
symbols_after points flags zero = symbols.start
symbols_after points flags (suc i) = symbols.feed (symbols_after points flags i) (seen (get_or points i 0) (get_or flags i 0) 0 0)

unfoldable pub accents_after : List ℕ → ℕ → TooManyAccentuated
accents_after flags zero = accents.start
accents_after flags (suc i) = accents.feed (accents_after flags i) (flagged flags i)

unfoldable pub unprintable_after : List ℕ → ℕ → Unprintable
unprintable_after flags zero = unprintable.start
unprintable_after flags (suc i) = unprintable.feed (unprintable_after flags i) (flagged flags i)

-- with the pair table's bit for the range after the last one
unfoldable pub ranges_after : List ℕ → List ℕ → List ℕ → ℕ → SuspiciousRange
ranges_after flags ranges_of pairs zero = ranges.start
ranges_after flags ranges_of pairs (suc i) =
    ranges.feed (ranges_after flags ranges_of pairs i) (seen 0 (get_or flags i 0) (get_or ranges_of i 0) 0)
    (suspicious pairs (ranges_after flags ranges_of pairs i).last (get_or ranges_of i 0))

unfoldable pub doubled_after : List ℕ → List ℕ → ℕ → SuspiciousDuplicateAccent
doubled_after flags bases zero = doubled.start
doubled_after flags bases (suc i) = doubled.feed (doubled_after flags bases i) (seen 0 (get_or flags i 0) 0 (get_or bases i 0))

unfoldable pub words_after : List ℕ → ℕ → SuperWeirdWord
words_after flags zero = words.start
words_after flags (suc i) = words.feed (words_after flags i) (flagged flags i)

unfoldable pub stops_after : List ℕ → List ℕ → ℕ → CjkInvalidStop
stops_after points flags zero = stops.start
stops_after points flags (suc i) = stops.feed (stops_after points flags i) (seen (get_or points i 0) (get_or flags i 0) 0 0)

unfoldable pub archaic_after : List ℕ → ℕ → ArchaicUpperLower
archaic_after flags zero = archaic.start
archaic_after flags (suc i) = archaic.feed (archaic_after flags i) (flagged flags i)

-- the eight together
unfoldable pub eight_after : List ℕ → List ℕ → List ℕ → List ℕ → List ℕ → ℕ → Detectors
eight_after points flags ranges_of bases pairs i =
    record {
      symbols = symbols_after points flags i;
      accents = accents_after flags i;
      unprintable = unprintable_after flags i;
      ranges = ranges_after flags ranges_of pairs i;
      doubled = doubled_after flags bases i;
      words = words_after flags i;
      stops = stops_after points flags i;
      archaic = archaic_after flags i;
    }
