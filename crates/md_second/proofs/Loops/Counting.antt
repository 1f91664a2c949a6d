-- The six counts: what one character more adds to each in its loop is what the detector's definition adds (`_step`, `_more`), from nothing on
-- (`_start`); and what is left at the end is what the definition counts (`_end`).
-- Assumes nothing.
use Prim.Native.Nat.{ℕ, zero, suc, ◌+◌, ◌≤◌, ◌<◌}
use mathlib.Core.Path.{◌≡◌, refl, ◌∙◌}
use mathlib.Core.Bool.{Bool, true, false, cond, not, ◌&&◌, ◌||◌}
use mathlib.Core.List.{List}
use native.Mathlib.Nat.{add-zero}
use native.Mathlib.Numerals.{add-one}
use native.Mathlib.Omega.{arith}
use lib.Dec.{eqb}
use lib.ListN.{get_or}
use Rattle.base.specs.Flags.{has, ALPHABETIC, ACCENTUATED, UPPERCASE, UNPRINTABLE, PUNCTUATION, CJK, LATIN}
use Rattle.base.specs.Limits.{LAST_RANGE}
use Rattle.base.specs.Numbers.{bump}
use Rattle.classes.specs.Pairs.{suspicious}
use Rattle.md_counts.specs.declared.too_many_symbol_or_punctuation.TooManySymbolOrPunctuation.{TooManySymbolOrPunctuation}
use Rattle.md_counts.specs.declared.too_many_accentuated.TooManyAccentuated.{TooManyAccentuated}
use Rattle.md_counts.specs.declared.unprintable.Unprintable.{Unprintable}
use Rattle.md_counts.specs.declared.cjk_invalid_stop.CjkInvalidStop.{CjkInvalidStop}
use Rattle.md_neighbours.specs.declared.suspicious_range.SuspiciousRange.{SuspiciousRange}
use Rattle.md_neighbours.specs.declared.suspicious_duplicate_accent.SuspiciousDuplicateAccent.{SuspiciousDuplicateAccent}
use Rattle.md_counts.specs.TooManySymbolOrPunctuation as symbols
use Rattle.md_counts.specs.TooManyAccentuated as accents
use Rattle.md_counts.specs.Unprintable as unprintable
use Rattle.md_counts.specs.CjkInvalidStop as stops
use Rattle.md_neighbours.specs.SuspiciousRange as ranges
use Rattle.md_neighbours.specs.SuspiciousDuplicateAccent as doubled
use Rattle.md_counts.proofs.Laws.TooManySymbolOrPunctuation as symbols_laws
use Rattle.md_counts.proofs.Laws.TooManyAccentuated as accents_laws
use Rattle.md_counts.proofs.Laws.Unprintable as unprintable_laws
use Rattle.md_counts.proofs.Laws.CjkInvalidStop as stops_laws
use Rattle.md_neighbours.proofs.Laws.SuspiciousRange as ranges_laws
use Rattle.md_neighbours.proofs.Laws.SuspiciousDuplicateAccent as doubled_laws
use Rattle.md_second.specs.Inner.After.{seen, flagged, is_mark, symbols_after, accents_after, unprintable_after, ranges_after, doubled_after, stops_after}
use Rattle.md_second.specs.Inner.Lists.{Known}
use Rattle.md_second.proofs.Loops.Upto.{Upto, upto_start, upto_more}

-- ---- symbols
abbrev pub symbols_of : ℕ → ℕ → ℕ → ℕ → TooManySymbolOrPunctuation
symbols_of printed punctuation counted last = record { characters = printed; punctuation = punctuation; symbols = counted; last = last }

symbols_step : (n p s l x y z w point f : ℕ) (b m q k : Bool) → b ≡ has f UNPRINTABLE → m ≡ is_mark n l point f → q ≡ has f PUNCTUATION → k ≡ symbols.counted_symbol f
    → y ≡ bump (m && q) → z ≡ bump (m && k) → x ≡ bump (not b) → w ≡ cond (not b) point l
    → symbols_of (n + x) (p + y) (s + z) w ≡ symbols.feed (symbols_of n p s l) (seen point f 0 0)
unfolding symbols.feed symbols.printable symbols.adds symbols.repeated is_mark
symbols_step n p s l x y z w point f true m q k e d g h i j a o = rw (i, j, a, o, d, ← e, add-zero n, add-zero p, add-zero s)
symbols_step n p s l x y z w point f false m q k e d g h i j a o = rw (i, j, a, o, d, g, h, ← e)

module _ (points flags : List ℕ) where
  abbrev pub SymbolsUpto : ℕ → ℕ → TooManySymbolOrPunctuation → Type 0
  SymbolsUpto = Upto (symbols_after points flags) symbols_laws.Within

  pub symbols_within : (i : ℕ) → symbols_laws.Within i (symbols_after points flags i)
  unfolding symbols_after
  symbols_within zero = symbols_laws.start_within
  symbols_within (suc i) = rw (← add-one i) (symbols_laws.feed_within i (symbols_after points flags i) (symbols_within i) _)

  pub symbols_start : (n : ℕ) → SymbolsUpto n 0 (symbols_of 0 0 0 0)
  unfolding symbols_after
  symbols_start n = upto_start (symbols_after points flags) symbols_laws.Within n (λ j h. symbols_within j) _ refl

  module _ {n i a p s l x y z w : ℕ} {b m q k : Bool} where
    pub symbols_more : SymbolsUpto n i (symbols_of a p s l) → i < n
        → b ≡ has (get_or flags i 0) UNPRINTABLE → m ≡ is_mark a l (get_or points i 0) (get_or flags i 0) → q ≡ has (get_or flags i 0) PUNCTUATION
        → k ≡ symbols.counted_symbol (get_or flags i 0) → y ≡ bump (m && q) → z ≡ bump (m && k) → x ≡ bump (not b) → w ≡ cond (not b) (get_or points i 0) l
        → SymbolsUpto n (i + 1) (symbols_of (a + x) (p + y) (s + z) w)
    unfolding symbols_after
    symbols_more g t e d f h j o u v =
        upto_more (symbols_after points flags) symbols_laws.Within n (λ j h. symbols_within j) i (λ r. symbols.feed r (seen (get_or points i 0) (get_or flags i 0) 0 0)) _ _ refl g t
        (symbols_step a p s l x y z w (get_or points i 0) (get_or flags i 0) b m q k e d f h j o u v)

-- ---- accents
abbrev pub accents_of : ℕ → ℕ → TooManyAccentuated
accents_of letters accented = record { characters = letters; accentuated = accented }

accents_step : (l a f x y : ℕ) (p q : Bool) → p ≡ has f ALPHABETIC → q ≡ has f ACCENTUATED → x ≡ bump p → y ≡ bump (p && q)
    → accents_of (l + x) (a + y) ≡ accents.feed (accents_of l a) (seen 0 f 0 0)
unfolding accents.feed accents.counted
accents_step l a f x y true q e d g h = rw (g, h, ← e, ← d)
accents_step l a f x y false q e d g h = rw (g, h, ← e, add-zero l, add-zero a)

module _ (flags : List ℕ) where
  abbrev pub AccentsUpto : ℕ → ℕ → TooManyAccentuated → Type 0
  AccentsUpto = Upto (accents_after flags) accents_laws.Within

  pub accents_within : (i : ℕ) → accents_laws.Within i (accents_after flags i)
  unfolding accents_after
  accents_within zero = accents_laws.start_within
  accents_within (suc i) = rw (← add-one i) (accents_laws.feed_within i (accents_after flags i) (accents_within i) _)

  pub accents_start : (n : ℕ) → AccentsUpto n 0 (accents_of 0 0)
  unfolding accents_after
  accents_start n = upto_start (accents_after flags) accents_laws.Within n (λ j h. accents_within j) _ refl

  module _ {n i l a x y : ℕ} {p q : Bool} where
    pub accents_more : AccentsUpto n i (accents_of l a) → i < n
        → p ≡ has (get_or flags i 0) ALPHABETIC → q ≡ has (get_or flags i 0) ACCENTUATED → x ≡ bump p → y ≡ bump (p && q)
        → AccentsUpto n (i + 1) (accents_of (l + x) (a + y))
    unfolding accents_after
    accents_more g t e d j h =
        upto_more (accents_after flags) accents_laws.Within n (λ j h. accents_within j) i (λ s. accents.feed s (flagged flags i)) _ _ refl g t
        (accents_step l a (get_or flags i 0) x y p q e d j h)

-- ---- unprintable
abbrev pub unprintable_of : ℕ → ℕ → Unprintable
unprintable_of characters counted = record { characters = characters; unprintable = counted }

module _ (flags : List ℕ) where
  abbrev pub UnprintableUpto : ℕ → ℕ → Unprintable → Type 0
  UnprintableUpto = Upto (unprintable_after flags) unprintable_laws.Within

  pub unprintable_within : (i : ℕ) → unprintable_laws.Within i (unprintable_after flags i)
  unfolding unprintable_after
  unprintable_within zero = unprintable_laws.start_within
  unprintable_within (suc i) = rw (← add-one i) (unprintable_laws.feed_within i (unprintable_after flags i) (unprintable_within i) _)

  pub unprintable_start : (n : ℕ) → UnprintableUpto n 0 (unprintable_of 0 0)
  unfolding unprintable_after
  unprintable_start n = upto_start (unprintable_after flags) unprintable_laws.Within n (λ j h. unprintable_within j) _ refl

  module _ {n i u x : ℕ} {p : Bool} where
    pub unprintable_more : UnprintableUpto n i (unprintable_of i u) → i < n → p ≡ has (get_or flags i 0) UNPRINTABLE → x ≡ bump p
        → UnprintableUpto n (i + 1) (unprintable_of (i + 1) (u + x))
    unfolding unprintable_after unprintable.feed
    unprintable_more g t e h =
        upto_more (unprintable_after flags) unprintable_laws.Within n (λ j h. unprintable_within j) i (λ s. unprintable.feed s (flagged flags i)) _ _ refl g t
        (rw (h, e))

  -- all n were counted
  pub unprintable_end : {n i u : ℕ} → UnprintableUpto n i (unprintable_of i u) → n ≤ i → unprintable_of n u ≡ unprintable_after flags n
  unprintable_end {n} {i} {u} g h =
      let e : i ≡ n = omega (arith, g.below) in
      rw e at g.state

-- ---- ranges
abbrev pub ranges_of : ℕ → ℕ → Bool → ℕ → SuspiciousRange
ranges_of printed counted seen last = record { characters = printed; suspicious = counted; seen = seen; last = last }

-- and the last range is one that the pair table knows
pub record RangesWithin (i : ℕ) (s : SuspiciousRange) : Type 0 where
  pub counted : ranges_laws.Within i s
  pub last : s.last ≤ LAST_RANGE

ranges_step : (a s l x y w f range : ℕ) (z b g u v : Bool) → b ≡ has f UNPRINTABLE → g ≡ ranges.forgets f
    → y ≡ bump ((not b && not g) && (z && u)) → x ≡ bump (not b) → w ≡ cond (not b) 0 l
    → v ≡ ((not b && not g) || (not (not b) && z)) → (k : ℕ) → k ≡ cond (not b && not g) range w
    → ranges_of (a + x) (s + y) v k ≡ ranges.feed (ranges_of a s z l) (seen 0 f range 0) u
unfolding ranges.feed ranges.forgotten ranges.followed
ranges_step a s l x y w f range z true g u v e d h i j o k p = rw (h, i, p, j, o, ← e, add-zero a, add-zero s)
ranges_step a s l x y w f range z false true u v e d h i j o k p = rw (h, i, p, j, o, ← e, ← d, add-zero s)
ranges_step a s l x y w f range z false false u v e d h i j o k p = rw (h, i, p, o, ← e, ← d)

module _ (flags range_list pairs : List ℕ) where
  abbrev pub RangesUpto : ℕ → ℕ → SuspiciousRange → Type 0
  RangesUpto = Upto (ranges_after flags range_list pairs) RangesWithin

  pub ranges_within : (n : ℕ) → Known range_list n → (i : ℕ) → i ≤ n → RangesWithin i (ranges_after flags range_list pairs i)
  unfolding ranges_after
  ranges_within n known zero h = record { counted = ranges_laws.start_within; last = omega arith }
  ranges_within n known (suc i) h =
      let r = ranges_within n known i (omega arith) in
      record {
        counted = rw (← add-one i) (ranges_laws.feed_within i (ranges_after flags range_list pairs i) r.counted _ _);
        last = ranges_laws.last_most LAST_RANGE (ranges_after flags range_list pairs i) _ _ r.last (known i (omega arith));
      }

  pub ranges_start : (n : ℕ) → Known range_list n → RangesUpto n 0 (ranges_of 0 0 false 0)
  unfolding ranges_after
  ranges_start n known = upto_start (ranges_after flags range_list pairs) RangesWithin n (ranges_within n known) _ refl

  module _ {n i a s l x y w k : ℕ} {z b g u v : Bool} where
    pub ranges_more : Known range_list n → RangesUpto n i (ranges_of a s z l) → i < n
        → b ≡ has (get_or flags i 0) UNPRINTABLE → g ≡ ranges.forgets (get_or flags i 0) → u ≡ suspicious pairs l (get_or range_list i 0)
        → y ≡ bump ((not b && not g) && (z && u)) → x ≡ bump (not b) → w ≡ cond (not b) 0 l
        → v ≡ ((not b && not g) || (not (not b) && z)) → k ≡ cond (not b && not g) (get_or range_list i 0) w
        → RangesUpto n (i + 1) (ranges_of (a + x) (s + y) v k)
    unfolding ranges_after
    ranges_more known r t e d c h j o p q =
        upto_more (ranges_after flags range_list pairs) RangesWithin n (ranges_within n known) i
        (λ m. ranges.feed m (seen 0 (get_or flags i 0) (get_or range_list i 0) 0) (suspicious pairs m.last (get_or range_list i 0))) _ _ refl r t
        (ranges_step a s l x y w (get_or flags i 0) (get_or range_list i 0) z b g u v e d h j o p k q ∙ rw c)

-- ---- doubled accents
abbrev pub doubled_of : ℕ → ℕ → ℕ → ℕ → SuspiciousDuplicateAccent
doubled_of letters counted last base = record { characters = letters; successive = counted; flags = last; base = base }

doubled_step : (n s l b x y z u v f base : ℕ) (p q a c e : Bool) → p ≡ has f ALPHABETIC → q ≡ has f LATIN
    → a ≡ (has f ACCENTUATED && has l ACCENTUATED) → c ≡ (has f UPPERCASE && has l UPPERCASE) → e ≡ eqb base b
    → y ≡ bump (((p && q) && a) && c) → z ≡ bump (((p && q) && a) && e) → x ≡ bump (p && q) → u ≡ cond (p && q) f l → v ≡ cond (p && q) base b
    → doubled_of (n + x) (s + y + z) u v ≡ doubled.feed (doubled_of n s l b) (seen 0 f 0 base)
unfolding doubled.feed doubled.letter doubled.latin_letter doubled.both
doubled_step n s l b x y z u v f base true true a c e g h i j k m o r t w = rw (m, o, r, t, w, i, j, k, ← g, ← h)
doubled_step n s l b x y z u v f base true false a c e g h i j k m o r t w = rw (m, o, r, t, w, ← g, ← h, add-zero n, add-zero s, add-zero s)
doubled_step n s l b x y z u v f base false q a c e g h i j k m o r t w = rw (m, o, r, t, w, ← g, add-zero n, add-zero s, add-zero s)

module _ (flags bases : List ℕ) where
  abbrev pub DoubledUpto : ℕ → ℕ → SuspiciousDuplicateAccent → Type 0
  DoubledUpto = Upto (doubled_after flags bases) doubled_laws.Within

  pub doubled_within : (i : ℕ) → doubled_laws.Within i (doubled_after flags bases i)
  unfolding doubled_after
  doubled_within zero = doubled_laws.start_within
  doubled_within (suc i) = rw (← add-one i) (doubled_laws.feed_within i (doubled_after flags bases i) (doubled_within i) _)

  pub doubled_start : (n : ℕ) → DoubledUpto n 0 (doubled_of 0 0 0 0)
  unfolding doubled_after
  doubled_start n = upto_start (doubled_after flags bases) doubled_laws.Within n (λ j h. doubled_within j) _ refl

  module _ {n i m s l b x y z u v : ℕ} {p q a c e : Bool} where
    pub doubled_more : DoubledUpto n i (doubled_of m s l b) → i < n
        → p ≡ has (get_or flags i 0) ALPHABETIC → q ≡ has (get_or flags i 0) LATIN
        → a ≡ (has (get_or flags i 0) ACCENTUATED && has l ACCENTUATED) → c ≡ (has (get_or flags i 0) UPPERCASE && has l UPPERCASE) → e ≡ eqb (get_or bases i 0) b
        → y ≡ bump (((p && q) && a) && c) → z ≡ bump (((p && q) && a) && e) → x ≡ bump (p && q)
        → u ≡ cond (p && q) (get_or flags i 0) l → v ≡ cond (p && q) (get_or bases i 0) b
        → DoubledUpto n (i + 1) (doubled_of (m + x) (s + y + z) u v)
    unfolding doubled_after
    doubled_more g t d1 d2 d3 d4 d5 d6 d7 d8 d9 d10 =
        upto_more (doubled_after flags bases) doubled_laws.Within n (λ j h. doubled_within j) i (λ r. doubled.feed r (seen 0 (get_or flags i 0) 0 (get_or bases i 0))) _ _ refl g t
        (doubled_step m s l b x y z u v (get_or flags i 0) (get_or bases i 0) p q a c e d1 d2 d3 d4 d5 d6 d7 d8 d9 d10)

-- ---- CJK stops
abbrev pub stops_of : ℕ → ℕ → CjkInvalidStop
stops_of wrong cjk = record { wrong = wrong; cjk = cjk }

module _ (points flags : List ℕ) where
  abbrev pub StopsUpto : ℕ → ℕ → CjkInvalidStop → Type 0
  StopsUpto = Upto (stops_after points flags) stops_laws.Within

  pub stops_within : (i : ℕ) → stops_laws.Within i (stops_after points flags i)
  unfolding stops_after
  stops_within zero = stops_laws.start_within
  stops_within (suc i) = rw (← add-one i) (stops_laws.feed_within i (stops_after points flags i) (stops_within i) _)

  pub stops_start : (n : ℕ) → StopsUpto n 0 (stops_of 0 0)
  unfolding stops_after
  stops_start n = upto_start (stops_after points flags) stops_laws.Within n (λ j h. stops_within j) _ refl

  module _ {n i w k x y : ℕ} {q : Bool} where
    pub stops_more : StopsUpto n i (stops_of w k) → i < n → q ≡ has (get_or flags i 0) CJK
        → x ≡ bump (stops.wrong_stop (get_or points i 0)) → y ≡ bump (not (stops.wrong_stop (get_or points i 0)) && q)
        → StopsUpto n (i + 1) (stops_of (w + x) (k + y))
    unfolding stops_after stops.feed
    stops_more g t e d h =
        upto_more (stops_after points flags) stops_laws.Within n (λ j h. stops_within j) i (λ s. stops.feed s (seen (get_or points i 0) (get_or flags i 0) 0 0)) _ _ refl g t
        (rw (d, h, e))
