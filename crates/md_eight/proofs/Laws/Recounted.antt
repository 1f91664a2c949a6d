-- What feeding comes to in the four counts that the number of characters tells (`FedCount`): unprintables and archaic case count every character, symbols
-- and ranges every printable one. So a state whose four are made of that number is the same state (`recounted_same`). And no word is watched where the tables' rules hold
-- of each class (`feed_slim`).
-- Assumes nothing.
use Prim.Native.Nat.{ℕ, ◌+◌, ◌-◌}
use mathlib.Core.Path.{◌≡◌, refl, sym, ap, ◌∙◌}
use mathlib.Core.Bool.{Bool, true, false}
use native.Mathlib.Omega.{arith}
use Rattle.base.specs.Flags.{has, UNPRINTABLE, ASCII_ALPHABETIC, LATIN, ACCENTUATED}
use Rattle.base.specs.Numbers.{bump}
use Rattle.base.proofs.Laws.Tests.{cond_both, by_bool}
use Rattle.classes.specs.declared.Class.{Class}
use Rattle.md_counts.specs.declared.too_many_symbol_or_punctuation.TooManySymbolOrPunctuation.{TooManySymbolOrPunctuation}
use Rattle.md_neighbours.specs.declared.suspicious_range.SuspiciousRange.{SuspiciousRange}
use Rattle.md_words.specs.declared.archaic_upper_lower.ArchaicUpperLower.{ArchaicUpperLower}
use Rattle.md_counts.specs.TooManySymbolOrPunctuation as symbols
use Rattle.md_counts.specs.Unprintable as unprintable
use Rattle.md_neighbours.specs.SuspiciousRange as ranges
use Rattle.md_words.specs.declared.super_weird_word.SuperWeirdWord.{SuperWeirdWord}
use Rattle.md_words.specs.ArchaicUpperLower as archaic
use Rattle.md_words.proofs.Laws.SuperWeirdWord.{start_unwatched, feed_unwatched}
use Rattle.md_eight.specs.declared.Detectors.{Detectors}
use Rattle.md_eight.specs.Detectors.{start, feed}
use Rattle.md_eight.specs.Inner.Detectors.{FedCount, Slim}

pub start_fed_count : FedCount start 0
unfolding start
start_fed_count = record { unprintable = refl; archaic = refl; symbols = refl; ranges = refl }

archaic_counts : (s : ArchaicUpperLower) (c : Class) → (archaic.feed s c).characters ≡ s.characters + 1
unfolding archaic.feed archaic.separator archaic.letter
archaic_counts s c = cond_both (λ (t : ArchaicUpperLower). t.characters ≡ s.characters + 1) (archaic.separates s c.flags) _ _ refl refl

-- one printable character more, or one more that is not
symbols_count : (s : TooManySymbolOrPunctuation) (c : Class) (u n : ℕ) → s.characters + u ≡ n
    → (symbols.feed s c).characters + (u + bump (has c.flags UNPRINTABLE)) ≡ n + 1
unfolding symbols.feed symbols.printable
symbols_count s c u n h = by_bool (has c.flags UNPRINTABLE) (λ e. rw e (omega (arith, h))) (λ e. rw e (omega (arith, h)))

ranges_count : (s : SuspiciousRange) (c : Class) (x : Bool) (u n : ℕ) → s.characters + u ≡ n
    → (ranges.feed s c x).characters + (u + bump (has c.flags UNPRINTABLE)) ≡ n + 1
unfolding ranges.feed ranges.forgotten ranges.followed
ranges_count s c x u n h =
    by_bool (has c.flags UNPRINTABLE)
    (λ e. rw e (omega (arith, h)))
    (λ e. rw e (cond_both (λ (t : SuspiciousRange). t.characters + (u + 0) ≡ n + 1) (ranges.forgets c.flags) _ _ (omega (arith, h)) (omega (arith, h))))

pub feed_fed_count : (s : Detectors) (n : ℕ) → FedCount s n → (c : Class) (x : Bool) → FedCount (feed s c x) (n + 1)
unfolding feed unprintable.feed
feed_fed_count s n k c x =
    record {
      unprintable = rw k.unprintable;
      archaic = rw (archaic_counts s.archaic c, k.archaic);
      symbols = symbols_count s.symbols c s.unprintable.unprintable n k.symbols;
      ranges = ranges_count s.ranges c x s.unprintable.unprintable n k.ranges;
    }

pub start_slim : Slim start
unfolding start
start_slim = start_unwatched

pub feed_slim : (s : Detectors) → Slim s → (c : Class) (x : Bool) → (has c.flags ASCII_ALPHABETIC ≡ true → has c.flags LATIN ≡ true)
    → (has c.flags ASCII_ALPHABETIC ≡ true → has c.flags ACCENTUATED ≡ false)
    → Slim (feed s c x)
unfolding feed
feed_slim s u c x l a = feed_unwatched s.words u c l a

module _ (s : Detectors) where
  -- the state with these words
  abbrev worded : SuperWeirdWord → Detectors
  worded w =
      record {
        symbols = s.symbols;
        accents = s.accents;
        unprintable = s.unprintable;
        ranges = s.ranges;
        doubled = s.doubled;
        words = w;
        stops = s.stops;
        archaic = s.archaic;
      }

  pub slimmed_same : (w : SuperWeirdWord) → w ≡ s.words → worded w ≡ s
  slimmed_same w e = ap worded e

  -- the state with these four counts
  abbrev made : ℕ → ℕ → ℕ → ℕ → SuperWeirdWord → Detectors
  made a b c d w =
      record {
        symbols = record { characters = a; punctuation = s.symbols.punctuation; symbols = s.symbols.symbols; last = s.symbols.last };
        accents = s.accents;
        unprintable = record { characters = b; unprintable = s.unprintable.unprintable };
        ranges = record { characters = c; suspicious = s.ranges.suspicious; seen = s.ranges.seen; last = s.ranges.last };
        doubled = s.doubled;
        words = w;
        stops = s.stops;
        archaic =
            record {
              characters = d;
              since = s.archaic.since;
              run = s.archaic.run;
              total = s.archaic.total;
              last = s.archaic.last;
              ascii = s.archaic.ascii;
              buf = s.archaic.buf;
            };
      }

  pub recounted_same : (n p : ℕ) → FedCount s n → p ≡ n - s.unprintable.unprintable → (w : SuperWeirdWord) → w ≡ s.words → made p n p n w ≡ s
  recounted_same n p k e w we =
      let a : p ≡ s.symbols.characters = omega (arith, e, k.symbols) in
      let c : p ≡ s.ranges.characters = omega (arith, e, k.ranges) in
      ap (λ (x : ℕ). made x n p n w) a
      ∙ ap (λ (x : ℕ). made s.symbols.characters x p n w) (sym k.unprintable)
      ∙ ap (λ (x : ℕ). made s.symbols.characters s.unprintable.characters x n w) c
      ∙ ap (λ (x : ℕ). made s.symbols.characters s.unprintable.characters s.ranges.characters x w) (sym k.archaic)
      ∙ ap (λ (x : SuperWeirdWord). made s.symbols.characters s.unprintable.characters s.ranges.characters s.archaic.characters x) we
