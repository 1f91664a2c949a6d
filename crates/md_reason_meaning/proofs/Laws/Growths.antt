-- How the numerators grow: from 0 (`numerator_start`), by 8 at an unprintable character (`unprintable_length`) and by 1 at a CJK stop (`stops_length`), so that the list's length tells
-- these two; and a detector that never grew has the ratio +0.0 (`still_ratio`). Assumes nothing.
use Prim.Native.Nat.{ℕ, zero, suc, ◌+◌, ◌*◌, ◌≤◌, ◌<◌}
use mathlib.Core.Path.{◌≡◌, refl, sym, ap, ◌∙◌}
use mathlib.Core.Bool.{Bool, true, false}
use mathlib.Core.List.{List}
use native.Mathlib.Nat.{mul-zero, mul-add}
use native.Mathlib.Numerals.{add-one}
use native.Mathlib.Omega.{arith}
use lib.Dec.{ltb}
use lib.Ieee.{le, of_int, of_bits}
use lib.ListN.{length}
use borrow.Author.Tests.{lt-ltb, le-ltb, ltb-false}
use Rattle.base.specs.Flags.{has, UNPRINTABLE}
use Rattle.base.specs.Numbers.{bump}
use Rattle.base.proofs.Laws.Tests.{by_bool}
use Rattle.classes.specs.declared.Class.{Class}
use Rattle.ratio.specs.declared.Counts.{Counts}
use Rattle.ratio.specs.declared.EightCounts.{EightCounts}
use Rattle.ratio.specs.Fraction.{share_of, fraction_of}
use Rattle.ratio.specs.Rounded.{ZERO, rounded}
use Rattle.ratio.specs.Eight.{DETECTORS, fractions_of, ratios}
use Rattle.ratio.specs.Inner.Eight.{EachSmall}
use Rattle.ratio.specs.Inner.Fraction.{Small}
use Rattle.ratio.proofs.Laws.Rounded.{ratio_at_most}
use Rattle.cd_order.specs.Chosen.{passing}
use Rattle.cd_order.proofs.Laws.Chosen.{chosen_none}
use Rattle.md_counts.specs.Unprintable as unprintable
use Rattle.md_counts.specs.CjkInvalidStop as stops
use Rattle.md_counts.specs.TooManySymbolOrPunctuation as symbols
use Rattle.md_counts.specs.TooManyAccentuated as accents
use Rattle.md_neighbours.specs.SuspiciousRange as ranges
use Rattle.md_neighbours.specs.SuspiciousDuplicateAccent as doubled
use Rattle.md_words.specs.SuperWeirdWord as words
use Rattle.md_words.specs.ArchaicUpperLower as archaic
use Rattle.md_eight.specs.declared.Detectors.{Detectors}
use Rattle.md_eight.specs.Detectors.{start, feed, counts}
use Rattle.md_meaning.specs.Text.{char_at}
use Rattle.md_meaning.specs.Scan.{fed, class_in, class_at, state_at}
use Rattle.md_growth.specs.Text.{numerator_of, numerator_at, grows}
use Rattle.md_reason_meaning.specs.Greatest.{ratio_at}
use Rattle.md_reason_meaning.proofs.Laws.Indexes.{passing_count}

-- the numbers of two detectors, in md.rs's order
abbrev pub UNPRINTABLES : ℕ
UNPRINTABLES = 3

abbrev pub STOPS : ℕ
STOPS = 7

-- ---- what grows by k or not at all
module _ (num : ℕ → ℕ) (k : ℕ) (bit : ℕ → Bool) (k_some : 0 < k) (none : num 0 ≡ 0) (more : (i : ℕ) → num (i + 1) ≡ num i + k * bump (bit i)) where
  grew : (i : ℕ) → ltb (num i) (num (i + 1)) ≡ bit i
  grew i =
      by_bool (bit i)
      (λ e. let m : num (i + 1) ≡ num i + k * 1 = rw e at (more i) in lt-ltb (num i) (num (i + 1)) (omega arith) ∙ sym e)
      (λ e. let m : num (i + 1) ≡ num i + k * 0 = rw e at (more i) in le-ltb (num i) (num (i + 1)) (omega arith) ∙ sym e)

  told_by_length : (n : ℕ) → k * length (passing (λ i. ltb (num i) (num (i + 1))) n) ≡ num n
  told_by_length zero = ap (λ (l : List ℕ). k * length l) (chosen_none (λ i. ltb (num i) (num (i + 1)))) ∙ mul-zero k ∙ sym none
  told_by_length (suc n) =
      ap (λ (m : ℕ). k * length (passing (λ i. ltb (num i) (num (i + 1))) m)) (sym (add-one n))
      ∙ ap (λ (m : ℕ). k * m) (passing_count (λ i. ltb (num i) (num (i + 1))) n)
      ∙ mul-add k _ _
      ∙ rw (told_by_length n, grew n) (sym (more n))
      ∙ ap num (add-one n)

numerator_none : (d : ℕ) → numerator_of d (counts start) ≡ 0
unfolding numerator_of counts start symbols.counts accents.counts unprintable.counts ranges.counts doubled.counts words.counts stops.counts archaic.counts
numerator_none zero = refl
numerator_none (suc zero) = refl
numerator_none (suc (suc zero)) = refl
numerator_none (suc (suc (suc zero))) = refl
numerator_none (suc (suc (suc (suc zero)))) = refl
numerator_none (suc (suc (suc (suc (suc zero))))) = refl
numerator_none (suc (suc (suc (suc (suc (suc zero)))))) = refl
numerator_none (suc (suc (suc (suc (suc (suc (suc zero))))))) = refl
numerator_none (suc (suc (suc (suc (suc (suc (suc (suc zero)))))))) = refl
numerator_none (suc (suc (suc (suc (suc (suc (suc (suc (suc d))))))))) = refl

unprintable_more : (s : Detectors) (c : Class) (b : Bool)
    → numerator_of UNPRINTABLES (counts (feed s c b)) ≡ numerator_of UNPRINTABLES (counts s) + unprintable.WORTH * bump (has c.flags UNPRINTABLE)
unfolding numerator_of counts feed unprintable.counts unprintable.feed
unprintable_more s c b = mul-add unprintable.WORTH s.unprintable.unprintable (bump (has c.flags UNPRINTABLE))

stops_more : (s : Detectors) (c : Class) (b : Bool)
    → numerator_of STOPS (counts (feed s c b)) ≡ numerator_of STOPS (counts s) + 1 * bump (stops.wrong_stop c.point)
unfolding numerator_of counts feed stops.counts stops.feed
stops_more s c b = omega arith

module _ (classes pairs text : List ℕ) where
  abbrev class_of_fed : ℕ → Class
  class_of_fed i = class_in (char_at text i) (class_at classes text i)

  pub numerator_start : (d : ℕ) → numerator_at classes pairs text d 0 ≡ 0
  unfolding state_at
  numerator_start d = numerator_none d

  next : (d i : ℕ) → numerator_at classes pairs text d (i + 1) ≡ numerator_of d (counts (fed pairs (state_at classes pairs text i) (class_of_fed i)))
  unfolding state_at
  next d i = ap (λ (m : ℕ). numerator_of d (counts (state_at classes pairs text m))) (add-one i)

  -- "for unprintables .. the list's length gives the numerator": eight times it
  pub unprintable_length : (n : ℕ) → unprintable.WORTH * length (passing (grows classes pairs text UNPRINTABLES) n) ≡ numerator_at classes pairs text UNPRINTABLES n
  unfolding grows fed
  unprintable_length n =
      told_by_length (numerator_at classes pairs text UNPRINTABLES) unprintable.WORTH (λ i. has (class_of_fed i).flags UNPRINTABLE) (omega arith) (numerator_start UNPRINTABLES)
      (λ i. next UNPRINTABLES i ∙ unprintable_more (state_at classes pairs text i) (class_of_fed i) _) n

  -- "and CJK stops": it is the numerator
  pub stops_length : (n : ℕ) → length (passing (grows classes pairs text STOPS) n) ≡ numerator_at classes pairs text STOPS n
  unfolding grows fed
  stops_length n =
      let e = told_by_length (numerator_at classes pairs text STOPS) 1 (λ i. stops.wrong_stop (class_of_fed i).point) (omega arith) (numerator_start STOPS)
      (λ i. next STOPS i ∙ stops_more (state_at classes pairs text i) (class_of_fed i) _) n in
      omega arith

  -- a numerator that never grew is 0
  pub still_zero : (d n : ℕ) → ((i : ℕ) → i < n → grows classes pairs text d i ≡ false) → numerator_at classes pairs text d n ≤ 0
  unfolding grows
  still_zero d zero h = omega (arith, numerator_start d)
  still_zero d (suc n) h =
      let m = ltb-false (numerator_at classes pairs text d n) (numerator_at classes pairs text d (n + 1)) (h n (omega arith)) in
      let e = ap (numerator_at classes pairs text d) (add-one n) in
      let b = still_zero d n (λ i l. h i (omega arith)) in
      omega arith

-- ---- a numerator of 0 gives the ratio +0.0
zero_ratio : (c : Counts) → Small (share_of c) → c.numerator ≤ 0 → le (rounded (fraction_of c)) ZERO ≡ true
unfolding of_int of_bits
zero_ratio c s h = ratio_at_most 0 c s (omega arith)

pub still_ratio : (c : EightCounts) → EachSmall c → (k : ℕ) → k < DETECTORS → numerator_of (k + 1) c ≤ 0 → le (ratio_at (ratios (fractions_of c)) k) ZERO ≡ true
unfolding numerator_of ratios fractions_of
still_ratio c s zero h e = zero_ratio c.symbols s.0 e
still_ratio c s (suc zero) h e = zero_ratio c.accents s.1.0 e
still_ratio c s (suc (suc zero)) h e = zero_ratio c.unprintable s.1.1.0 e
still_ratio c s (suc (suc (suc zero))) h e = zero_ratio c.ranges s.1.1.1.0 e
still_ratio c s (suc (suc (suc (suc zero)))) h e = zero_ratio c.doubled s.1.1.1.1.0 e
still_ratio c s (suc (suc (suc (suc (suc zero))))) h e = zero_ratio c.words s.1.1.1.1.1.0 e
still_ratio c s (suc (suc (suc (suc (suc (suc zero)))))) h e = zero_ratio c.stops s.1.1.1.1.1.1.0 e
still_ratio c s (suc (suc (suc (suc (suc (suc (suc zero))))))) h e = zero_ratio c.archaic s.1.1.1.1.1.1.1.0 e
still_ratio c s (suc (suc (suc (suc (suc (suc (suc (suc k)))))))) h e = absurd (past k h)
  where
    past : (k : ℕ) → suc (suc (suc (suc (suc (suc (suc (suc k))))))) < DETECTORS → ⊥
    past k z = omega arith
