-- Words of inner contracts, beside Detectors: `Room`, `Countable`, `FedCount`, `Slim`. No public promise rests on them.
-- Assumes nothing.
use Rattle.std.specs.Prelude.{ℕ, ◌+◌, ◌≡◌}
use Rattle.md_eight.specs.declared.Detectors.{Detectors}
use Rattle.md_eight.specs.Detectors.{counts}
use Rattle.md_counts.specs.Inner.TooManySymbolOrPunctuation as symbols
use Rattle.md_counts.specs.Inner.TooManyAccentuated as accents
use Rattle.md_counts.specs.Inner.Unprintable as unprintable
use Rattle.md_neighbours.specs.Inner.SuspiciousRange as ranges
use Rattle.md_neighbours.specs.Inner.SuspiciousDuplicateAccent as doubled
use Rattle.md_words.specs.Inner.SuperWeirdWord as words
use Rattle.md_counts.specs.Inner.CjkInvalidStop as stops
use Rattle.md_words.specs.Inner.ArchaicUpperLower as archaic
use Rattle.ratio.specs.Inner.Eight.{EachSmall}

-- room for one character more in each count
pub record Room (s : Detectors) : Type 0 where
  pub symbols : symbols.Room s.symbols
  pub accents : accents.Room s.accents
  pub unprintable : unprintable.Room s.unprintable
  pub ranges : ranges.Room s.ranges
  pub doubled : doubled.Room s.doubled
  pub words : words.Room s.words
  pub stops : stops.Room s.stops
  pub archaic : archaic.Room s.archaic

-- the counts are small enough for ratios
abbrev pub Countable : Detectors → Type 0
Countable s = EachSmall (counts s)

-- what n characters come to in the counts that each character adds to, and in those that each printable one does
pub record FedCount (s : Detectors) (n : ℕ) : Type 0 where
  pub unprintable : s.unprintable.characters ≡ n
  pub archaic : s.archaic.characters ≡ n
  pub symbols : s.symbols.characters + s.unprintable.unprintable ≡ n
  pub ranges : s.ranges.characters + s.unprintable.unprintable ≡ n

-- no word is watched: so it is after characters whose ASCII letters are Latin and have no accent
abbrev pub Slim : Detectors → Type 0
Slim s = words.Unwatched s.words
