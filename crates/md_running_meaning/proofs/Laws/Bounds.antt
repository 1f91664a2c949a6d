-- What a step needs of a state is shown from 19 alone: each of the 25 counts is at most twice the number received, and so at most 131,072. A step has room
-- in each (`sound_room`), and the eight ratios can be made before it and after it (`sound_countable`, `fed_countable`): the end of a word adds
-- two of its counts, and the end of a run two of archaic case's, which makes at most 2^18; every other count grows by 2 at most.
-- Assumes nothing.
use Prim.Native.Nat.{ℕ, ◌+◌, ◌*◌, ◌≤◌, ◌<◌}
use mathlib.Core.Bool.{Bool, cond, not, ◌&&◌, ◌||◌}
use native.Mathlib.Omega.{arith}
use lib.Dec.{eqb, lit<}
use lib.ListN.{length, get_or}
use Rattle.base.specs.Flags.{has, UNPRINTABLE, PUNCTUATION, ALPHABETIC, ACCENTUATED, UPPERCASE, CJK, ASCII_ALPHABETIC}
use Rattle.base.proofs.Laws.Numbers.{bump_small}
use Rattle.base.proofs.Laws.Tests.{cond_both}
use Rattle.classes.specs.declared.Class.{Class}
use Rattle.ratio.specs.Inner.Fraction.{MOST_NUM, Small}
use Rattle.ratio.specs.Fraction.{share_of}
use Rattle.md_counts.specs.declared.too_many_symbol_or_punctuation.TooManySymbolOrPunctuation.{TooManySymbolOrPunctuation}
use Rattle.md_counts.specs.declared.too_many_accentuated.TooManyAccentuated.{TooManyAccentuated}
use Rattle.md_counts.specs.declared.unprintable.Unprintable.{Unprintable}
use Rattle.md_counts.specs.declared.cjk_invalid_stop.CjkInvalidStop.{CjkInvalidStop}
use Rattle.md_neighbours.specs.declared.suspicious_range.SuspiciousRange.{SuspiciousRange}
use Rattle.md_neighbours.specs.declared.suspicious_duplicate_accent.SuspiciousDuplicateAccent.{SuspiciousDuplicateAccent}
use Rattle.md_words.specs.declared.super_weird_word.SuperWeirdWord.{SuperWeirdWord}
use Rattle.md_words.specs.declared.archaic_upper_lower.ArchaicUpperLower.{ArchaicUpperLower}
use Rattle.md_counts.specs.TooManySymbolOrPunctuation as symbols
use Rattle.md_counts.specs.TooManyAccentuated as accents
use Rattle.md_counts.specs.Unprintable as unprintable
use Rattle.md_counts.specs.CjkInvalidStop as stops
use Rattle.md_neighbours.specs.SuspiciousRange as ranges
use Rattle.md_neighbours.specs.SuspiciousDuplicateAccent as doubled
use Rattle.md_words.specs.SuperWeirdWord as words
use Rattle.md_words.specs.ArchaicUpperLower as archaic
use Rattle.md_eight.specs.Detectors.{feed, counts}
use Rattle.md_eight.specs.Inner.Detectors.{Room, Countable}
use Rattle.md_growth.specs.Inner.Growth.{Watchable}
use Rattle.md_running_meaning.specs.declared.Running.{Running}
use Rattle.md_running_meaning.specs.State.{eight_of, counts_in}
use Rattle.md_running_meaning.specs.Inner.Sound.{Sound}

-- twice the most that can have been received
abbrev pub MOST : ℕ
MOST = 131072

infixr 40 ◌and◌
-- one element more of those that something holds of
abbrev ◌and◌ : {A B : Type 0} → A → B → A × B
x and y = (x, y)

-- ---- each detector: its counts can be told where they are at most MOST, and after one character more
module _ (s : TooManySymbolOrPunctuation) (n : s.characters ≤ MOST) (p : s.punctuation ≤ MOST) (y : s.symbols ≤ MOST) where
  symbols_now : Small (share_of (symbols.counts s))
  unfolding symbols.counts
  symbols_now = record { num = omega arith; den = omega arith }

  symbols_next : (c : Class) → Small (share_of (symbols.counts (symbols.feed s c)))
  unfolding symbols.counts symbols.feed symbols.printable
  symbols_next c =
      let a = bump_small (symbols.adds s c && has c.flags PUNCTUATION) in
      let b = bump_small (symbols.adds s c && symbols.counted_symbol c.flags) in
      cond_both (λ (t : TooManySymbolOrPunctuation). Small (share_of (symbols.counts t))) (has c.flags UNPRINTABLE) s _
      symbols_now (record { num = omega arith; den = omega arith })

module _ (s : TooManyAccentuated) (n : s.characters ≤ MOST) (a : s.accentuated ≤ MOST) where
  accents_now : Small (share_of (accents.counts s))
  unfolding accents.counts
  accents_now = record { num = omega arith; den = omega arith }

  accents_next : (c : Class) → Small (share_of (accents.counts (accents.feed s c)))
  unfolding accents.counts accents.feed accents.counted
  accents_next c =
      let b = bump_small (has c.flags ACCENTUATED) in
      cond_both (λ (t : TooManyAccentuated). Small (share_of (accents.counts t))) (has c.flags ALPHABETIC) _ s
      (record { num = omega arith; den = omega arith }) accents_now

module _ (s : Unprintable) (n : s.characters ≤ MOST) (u : s.unprintable ≤ MOST) where
  unprintable_now : Small (share_of (unprintable.counts s))
  unfolding unprintable.counts
  unprintable_now = record { num = omega arith; den = omega arith }

  unprintable_next : (c : Class) → Small (share_of (unprintable.counts (unprintable.feed s c)))
  unfolding unprintable.counts unprintable.feed
  unprintable_next c =
      let b = bump_small (has c.flags UNPRINTABLE) in
      record { num = omega arith; den = omega arith }

module _ (s : SuspiciousRange) (n : s.characters ≤ MOST) (u : s.suspicious ≤ MOST) where
  ranges_now : Small (share_of (ranges.counts s))
  unfolding ranges.counts
  ranges_now = record { num = omega arith; den = omega arith }

  ranges_next : (c : Class) (pair : Bool) → Small (share_of (ranges.counts (ranges.feed s c pair)))
  unfolding ranges.counts ranges.feed ranges.forgotten ranges.followed
  ranges_next c pair =
      let b = bump_small (s.seen && pair) in
      cond_both (λ (t : SuspiciousRange). Small (share_of (ranges.counts t))) (has c.flags UNPRINTABLE) s _ ranges_now
      (cond_both (λ (t : SuspiciousRange). Small (share_of (ranges.counts t))) (ranges.forgets c.flags) _ _
      (record { num = omega arith; den = omega arith })
      (record { num = omega arith; den = omega arith }))

module _ (s : SuspiciousDuplicateAccent) (n : s.characters ≤ MOST) (u : s.successive ≤ MOST) where
  doubled_now : Small (share_of (doubled.counts s))
  unfolding doubled.counts
  doubled_now = record { num = omega arith; den = omega arith }

  doubled_next : (c : Class) → Small (share_of (doubled.counts (doubled.feed s c)))
  unfolding doubled.counts doubled.feed doubled.letter
  doubled_next c =
      let a = bump_small (doubled.both s c.flags ACCENTUATED && doubled.both s c.flags UPPERCASE) in
      let b = bump_small (doubled.both s c.flags ACCENTUATED && eqb c.base s.base) in
      cond_both (λ (t : SuspiciousDuplicateAccent). Small (share_of (doubled.counts t))) (doubled.latin_letter c.flags) _ s
      (record { num = omega arith; den = omega arith }) doubled_now

module _ (s : CjkInvalidStop) (w : s.wrong ≤ MOST) (k : s.cjk ≤ MOST) where
  stops_now : Small (share_of (stops.counts s))
  unfolding stops.counts
  stops_now = record { num = omega arith; den = omega arith }

  stops_next : (c : Class) → Small (share_of (stops.counts (stops.feed s c)))
  unfolding stops.counts stops.feed
  stops_next c =
      let a = bump_small (stops.wrong_stop c.point) in
      let b = bump_small (not (stops.wrong_stop c.point) && has c.flags CJK) in
      record { num = omega arith; den = omega arith }

module _ (s : SuperWeirdWord) (n : s.characters ≤ MOST) (b : s.spoilt ≤ MOST) (l : s.length ≤ MOST) where
  words_now : Small (share_of (words.counts s))
  unfolding words.counts
  words_now = record { num = omega arith; den = omega arith }

  -- the end of a word adds its length to the characters, and where it is bad to those of bad words
  close_next : Small (share_of (words.counts (words.close s)))
  unfolding words.counts words.close
  close_next =
      let k : cond (s.bad || words.accented s || words.capital s || words.long s) s.length 0 ≤ s.length =
      cond_both (λ (m : ℕ). m ≤ s.length) (s.bad || words.accented s || words.capital s || words.long s) _ _ (omega arith) (omega arith) in
      record { num = omega arith; den = omega arith }

  letter_next : (f : ℕ) → Small (share_of (words.counts (words.letter s f)))
  unfolding words.counts words.letter
  letter_next f = record { num = omega arith; den = omega arith }

  symbol_next : (f : ℕ) → Small (share_of (words.counts (words.symbol s f)))
  unfolding words.counts words.symbol
  symbol_next f = record { num = omega arith; den = omega arith }

  words_next : (c : Class) → Small (share_of (words.counts (words.feed s c)))
  unfolding words.feed words.inside
  words_next c =
      cond_both (λ (t : SuperWeirdWord). Small (share_of (words.counts t))) (has c.flags ASCII_ALPHABETIC) _ _ (letter_next c.flags)
      (cond_both (λ (t : SuperWeirdWord). Small (share_of (words.counts t))) (eqb s.length 0) _ _ words_now
      (cond_both (λ (t : SuperWeirdWord). Small (share_of (words.counts t))) (words.closes c.flags) _ _ close_next
      (cond_both (λ (t : SuperWeirdWord). Small (share_of (words.counts t))) (words.counted c.flags) _ _ (symbol_next c.flags) words_now)))

module _ (s : ArchaicUpperLower) (n : s.characters ≤ MOST) (t : s.total ≤ MOST) (r : s.run ≤ MOST) where
  archaic_now : Small (share_of (archaic.counts s))
  unfolding archaic.counts
  archaic_now = record { num = omega arith; den = omega arith }

  -- a separator may add the run to the total
  archaic_next : (c : Class) → Small (share_of (archaic.counts (archaic.feed s c)))
  unfolding archaic.counts archaic.feed archaic.separator archaic.letter
  archaic_next c =
      let k : cond (archaic.counted s c.flags) s.run 0 ≤ s.run =
      cond_both (λ (m : ℕ). m ≤ s.run) (archaic.counted s c.flags) _ _ (omega arith) (omega arith) in
      cond_both (λ (u : ArchaicUpperLower). Small (share_of (archaic.counts u))) (archaic.separates s c.flags) _ _
      (record { num = omega arith; den = omega arith })
      (record { num = omega arith; den = omega arith })

-- ---- the eight together
module _ (s : Running) (g : Sound s) where
  -- the count at a place of the list
  at_most_lem : (i : ℕ) → i < length (counts_in s) → get_or (counts_in s) i 0 ≤ MOST
  at_most_lem i h = let k = g.counts i h in omega (arith, k, g.short, g.declared)

  room : (i : ℕ) → i < length (counts_in s) → get_or (counts_in s) i 0 ≤ MOST_NUM
  room i h = let k = at_most_lem i h in omega (arith, k)

  pub sound_room : Room (eight_of s)
  unfolding counts_in
  sound_room =
      record {
        symbols = record { characters = room 1 (lit< tt); punctuation = room 2 (lit< tt); symbols = room 3 (lit< tt) };
        accents = record { characters = room 4 (lit< tt); accentuated = room 5 (lit< tt) };
        unprintable = record { characters = room 6 (lit< tt); unprintable = room 7 (lit< tt) };
        ranges = record { characters = room 8 (lit< tt); suspicious = room 9 (lit< tt) };
        doubled = record { characters = room 10 (lit< tt); successive = room 11 (lit< tt) };
        words =
            record {
              characters = room 12 (lit< tt);
              words = room 13 (lit< tt);
              foreign = room 14 (lit< tt);
              spoilt = room 15 (lit< tt);
              accents = room 16 (lit< tt);
              uppercase = room 17 (lit< tt);
              length = room 18 (lit< tt);
            };
        stops = record { wrong = room 19 (lit< tt); cjk = room 20 (lit< tt) };
        archaic = record { characters = room 21 (lit< tt); since = room 22 (lit< tt); run = room 23 (lit< tt); total = room 24 (lit< tt) };
      }

  pub sound_countable : Countable (eight_of s)
  unfolding counts counts_in
  sound_countable =
      symbols_now _ (at_most_lem 1 (lit< tt)) (at_most_lem 2 (lit< tt)) (at_most_lem 3 (lit< tt))
      and accents_now _ (at_most_lem 4 (lit< tt)) (at_most_lem 5 (lit< tt))
      and unprintable_now _ (at_most_lem 6 (lit< tt)) (at_most_lem 7 (lit< tt))
      and ranges_now _ (at_most_lem 8 (lit< tt)) (at_most_lem 9 (lit< tt))
      and doubled_now _ (at_most_lem 10 (lit< tt)) (at_most_lem 11 (lit< tt))
      and words_now _ (at_most_lem 12 (lit< tt)) (at_most_lem 15 (lit< tt)) (at_most_lem 18 (lit< tt))
      and stops_now _ (at_most_lem 19 (lit< tt)) (at_most_lem 20 (lit< tt))
      and archaic_now _ (at_most_lem 21 (lit< tt)) (at_most_lem 24 (lit< tt)) (at_most_lem 23 (lit< tt))
      and tt

  pub fed_countable : (c : Class) (pair : Bool) → Countable (feed (eight_of s) c pair)
  unfolding counts counts_in feed
  fed_countable c pair =
      symbols_next _ (at_most_lem 1 (lit< tt)) (at_most_lem 2 (lit< tt)) (at_most_lem 3 (lit< tt)) c
      and accents_next _ (at_most_lem 4 (lit< tt)) (at_most_lem 5 (lit< tt)) c
      and unprintable_next _ (at_most_lem 6 (lit< tt)) (at_most_lem 7 (lit< tt)) c
      and ranges_next _ (at_most_lem 8 (lit< tt)) (at_most_lem 9 (lit< tt)) c pair
      and doubled_next _ (at_most_lem 10 (lit< tt)) (at_most_lem 11 (lit< tt)) c
      and words_next _ (at_most_lem 12 (lit< tt)) (at_most_lem 15 (lit< tt)) (at_most_lem 18 (lit< tt)) c
      and stops_next _ (at_most_lem 19 (lit< tt)) (at_most_lem 20 (lit< tt)) c
      and archaic_next _ (at_most_lem 21 (lit< tt)) (at_most_lem 24 (lit< tt)) (at_most_lem 23 (lit< tt)) c
      and tt

  pub sound_watchable : (c : Class) (pair : Bool) → Watchable s.watched c pair
  sound_watchable c pair = record { room = sound_room; before = sound_countable; after = fed_countable c pair }
