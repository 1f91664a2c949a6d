-- What holds of the eight detectors after k characters: a step has room, the eight ratios can be made, and seven have 01's bounds
-- ("All but CJK stops have ratios of at most 2, 1, 8, 2, 4, 1 and 1, in order"), and so have the counts that are shown with them. And the last
-- range has a row in the pair table.
-- Assumes nothing.
use Prim.Native.Nat.{ℕ, ◌+◌, ◌≤◌}
use mathlib.Core.Path.{◌≡◌}
use mathlib.Core.Bool.{Bool, true}
use native.Mathlib.Omega.{arith}
use lib.IntN.{pos}
use lib.Ieee.{Float, binary32, of_int, le}
use Rattle.base.specs.Inner.Limits.{LARGEST}
use Rattle.classes.specs.declared.Class.{Class}
use Rattle.ratio.specs.declared.Ratios.{Ratios}
use Rattle.ratio.specs.Shown.{shown, eight_shown}
use Rattle.ratio.specs.Eight.{fractions_of, ratios as ratios_of}
use Rattle.ratio.specs.Inner.Eight.{EachProper}
use Rattle.ratio.proofs.Laws.Rounded.{ratio_at_most}
use Rattle.md_eight.specs.declared.Detectors.{Detectors}
use Rattle.md_eight.specs.Bounds.{CountsAtMost}
use Rattle.md_eight.specs.Detectors.{start, last_range, feed, counts, fractions, ratios}
use Rattle.md_eight.specs.Inner.Detectors.{Room, Countable}
use Rattle.md_counts.proofs.Laws.TooManySymbolOrPunctuation as symbols
use Rattle.md_counts.proofs.Laws.TooManyAccentuated as accents
use Rattle.md_counts.proofs.Laws.Unprintable as unprintable
use Rattle.md_neighbours.proofs.Laws.SuspiciousRange as ranges
use Rattle.md_neighbours.proofs.Laws.SuspiciousDuplicateAccent as doubled
use Rattle.md_words.proofs.Laws.SuperWeirdWord as words
use Rattle.md_counts.proofs.Laws.CjkInvalidStop as stops
use Rattle.md_words.proofs.Laws.ArchaicUpperLower as archaic
use Rattle.ratio.proofs.Laws.Fraction as ratio

-- what holds after k characters
pub record Within (k : ℕ) (s : Detectors) : Type 0 where
  pub symbols : symbols.Within k s.symbols
  pub accents : accents.Within k s.accents
  pub unprintable : unprintable.Within k s.unprintable
  pub ranges : ranges.Within k s.ranges
  pub doubled : doubled.Within k s.doubled
  pub words : words.Within k s.words
  pub stops : stops.Within k s.stops
  pub archaic : archaic.Within k s.archaic

pub start_within : Within 0 start
unfolding start
start_within =
    record {
      symbols = symbols.start_within;
      accents = accents.start_within;
      unprintable = unprintable.start_within;
      ranges = ranges.start_within;
      doubled = doubled.start_within;
      words = words.start_within;
      stops = stops.start_within;
      archaic = archaic.start_within;
    }

-- 01's bounds of the ratios, in f32
abbrev whole : ℕ → Float
whole n = of_int binary32 (pos n)

pub record AtMost (r : Ratios) : Type 0 where
  pub symbols : le r.symbols (whole 2) ≡ true
  pub accents : le r.accents (whole 1) ≡ true
  pub unprintable : le r.unprintable (whole 8) ≡ true
  pub ranges : le r.ranges (whole 2) ≡ true
  pub doubled : le r.doubled (whole 4) ≡ true
  pub words : le r.words (whole 1) ≡ true
  pub archaic : le r.archaic (whole 1) ≡ true

infixr 40 ◌and◌
-- one element more of those that something holds of
abbrev ◌and◌ : {A B : Type 0} → A → B → A × B
x and y = (x, y)

module _ (k : ℕ) (s : Detectors) (w : Within k s) where
  pub feed_within : (c : Class) (suspicious : Bool) → Within (k + 1) (feed s c suspicious)
  unfolding feed
  feed_within c suspicious =
      record {
        symbols = symbols.feed_within k s.symbols w.symbols c;
        accents = accents.feed_within k s.accents w.accents c;
        unprintable = unprintable.feed_within k s.unprintable w.unprintable c;
        ranges = ranges.feed_within k s.ranges w.ranges c suspicious;
        doubled = doubled.feed_within k s.doubled w.doubled c;
        words = words.feed_within k s.words w.words c;
        stops = stops.feed_within k s.stops w.stops c;
        archaic = archaic.feed_within k s.archaic w.archaic c;
      }

  pub within_room : k ≤ LARGEST → Room s
  within_room h =
      record {
        symbols = symbols.within_room k s.symbols w.symbols h;
        accents = accents.within_room k s.accents w.accents h;
        unprintable = unprintable.within_room k s.unprintable w.unprintable h;
        ranges = ranges.within_room k s.ranges w.ranges h;
        doubled = doubled.within_room k s.doubled w.doubled h;
        words = words.within_room k s.words w.words h;
        stops = stops.within_room k s.stops w.stops h;
        archaic = archaic.within_room k s.archaic w.archaic h;
      }

  pub within_countable : k ≤ LARGEST → Countable s
  unfolding counts
  within_countable h =
      symbols.within_small k s.symbols w.symbols h
      and accents.within_small k s.accents w.accents h
      and unprintable.within_small k s.unprintable w.unprintable h
      and ranges.within_small k s.ranges w.ranges h
      and doubled.within_small k s.doubled w.doubled h
      and words.within_small k s.words w.words h
      and stops.within_small k s.stops w.stops h
      and archaic.within_small k s.archaic w.archaic h
      and tt

  pub fractions_proper : k ≤ LARGEST → EachProper (fractions s)
  fractions_proper h = ratio.fractions_proper (counts s) (within_countable h)

  pub ratios_at_most : k ≤ LARGEST → AtMost (ratios s)
  unfolding counts fractions_of ratios_of
  ratios_at_most h =
      record {
        symbols = ratio_at_most 2 _ (symbols.within_small k s.symbols w.symbols h) (symbols.counts_bound k s.symbols w.symbols);
        accents = ratio_at_most 1 _ (accents.within_small k s.accents w.accents h) (accents.counts_bound k s.accents w.accents);
        unprintable = ratio_at_most 8 _ (unprintable.within_small k s.unprintable w.unprintable h) (unprintable.counts_bound k s.unprintable w.unprintable);
        ranges = ratio_at_most 2 _ (ranges.within_small k s.ranges w.ranges h) (ranges.counts_bound k s.ranges w.ranges);
        doubled = ratio_at_most 4 _ (doubled.within_small k s.doubled w.doubled h) (doubled.counts_bound k s.doubled w.doubled);
        words = ratio_at_most 1 _ (words.within_small k s.words w.words h) (words.counts_bound k s.words w.words);
        archaic = ratio_at_most 1 _ (archaic.within_small k s.archaic w.archaic h) (archaic.counts_bound k s.archaic w.archaic);
      }

  pub counts_at_most : CountsAtMost (eight_shown (counts s) (ratios s))
  unfolding eight_shown shown counts
  counts_at_most =
      record {
        symbols = symbols.counts_bound k s.symbols w.symbols;
        accents = accents.counts_bound k s.accents w.accents;
        unprintable = unprintable.counts_bound k s.unprintable w.unprintable;
        ranges = ranges.counts_bound k s.ranges w.ranges;
        doubled = doubled.counts_bound k s.doubled w.doubled;
        words = words.counts_bound k s.words w.words;
        archaic = archaic.counts_bound k s.archaic w.archaic;
      }

-- the last range is at most m where the characters' ranges are
pub start_last : (m : ℕ) → last_range start ≤ m
unfolding start
start_last m = omega arith

pub feed_last : (m : ℕ) (s : Detectors) (c : Class) (suspicious : Bool) → last_range s ≤ m → c.range ≤ m → last_range (feed s c suspicious) ≤ m
unfolding feed
feed_last m s c suspicious h r = ranges.last_most m s.ranges c suspicious h r
