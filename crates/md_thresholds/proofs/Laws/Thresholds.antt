-- What a higher threshold does: `higher_compared` (02 [12]), and what follows for who tunes a room: acceptance is the same at every finite threshold
-- (`accepted_alike`), a line that stops early at the higher one does so at the lower (`stops_only_shrink`), and no line stops at a threshold above
-- which no sum lies (`above_all`).
-- Assumes nothing.
use Rattle.std.specs.Prelude.{Result, Ok, Some}
use Prim.Native.Nat.{ℕ, ◌+◌, ◌*◌, ◌≤◌, ◌<◌}
use mathlib.Core.Path.{◌≡◌, refl, sym, ap, ◌∙◌}
use mathlib.Core.Bool.{Bool, true, false, cond, not, ◌&&◌, ◌||◌, true≢false}
use mathlib.Core.List.{List}
use mathlib.Core.Logic.{inl, inr}
use native.Mathlib.Nat.{lt_irrefl, zero-mul, mul-pos, eq-zero-or-pos}
use native.Mathlib.Omega.{arith}
use lib.Dec.{leb, ltb, eqb, lit≤}
use lib.Ieee.{Float, nan, inf, fin, up, down, le, lt, eq}
use lib.IntN.{ℤ}
use lib.Ieee.Exact.{HasValue}
use lib.Ieee.Fits.{down_pos}
use lib.Ieee.Positive.{through}
use lib.ListN.{length}
use borrow.Author.Tests.{eqb-true, ltb-true, ltb-false, leb-true, le-leb, lt-ltb, le-ltb}
use Rattle.base.specs.declared.Refusal.{Refusal}
use Rattle.base.proofs.Laws.Tests.{by_bool, by_test, split, and_l, and_r, and_yes}
use Rattle.base.proofs.Laws.First.{first_before, first_found, first_within, first_none}
use Rattle.base.specs.First.{first}
use Rattle.ratio.specs.Finite.{is_finite, not_finite}
use Rattle.base.specs.Limits.{LONGEST_TEXT}
use Rattle.ratio.specs.Parts.{ONE}
use Rattle.ratio.specs.Inner.Finite.{Plain}
use Rattle.ratio.specs.declared.Fraction.{Fraction}
use Rattle.ratio.specs.Fraction.{nothing, fraction_of}
use Rattle.ratio.specs.Eight.{sum, fractions_of, ratios as ratios_of}
use Rattle.ratio.specs.Inner.Eight.{EachSmall}
use Rattle.ratio.proofs.Laws.Comparing.{le_is, lt_not_le}
use Rattle.ratio.proofs.Laws.Finite.{plain_of}
use Rattle.ratio.proofs.Laws.Fraction.{fraction_proper, fraction_bound}
use Rattle.ratio_demand.proofs.Laws.Demand.{sum_plain}
use Rattle.md_eight.specs.Detectors.{fractions, counts, ratios}
use Rattle.ratio.specs.Shown.{shown, eight_shown}
use Rattle.md_eight.specs.Bounds.{CountsAtMost}
use Rattle.md_eight.specs.declared.Detectors.{Detectors}
use Rattle.md_eight.proofs.Loops.Detectors.{Within, fractions_proper, within_countable, counts_at_most}
use Rattle.md_counts.specs.CjkInvalidStop as stop
use Rattle.md_meaning.specs.declared.Score.{Score}
use Rattle.md_meaning.specs.Text.{total, checkpoint}
use Rattle.md_meaning.specs.Scan.{state_at, stops, reaches, sum_of, scored, stop_of, accepted_score}
use Rattle.md_meaning.specs.MessRatio.{causes, of_scoring, mess_ratio}
use Rattle.md_thresholds.specs.Thresholds.{HIGHEST, HIGHEST_F32, Higher, Compared}
use Rattle.md_thresholds.proofs.Laws.UpTo.{UpTo, whole, up_to_whole, whole_up_to, rounded_up_to, up_to_plus}
use Rattle.md_meaning.proofs.Laws.Scan.{state_within}
use Rattle.md_meaning.proofs.Laws.Accepted.{scored_faultless}

-- ---- the order of f32 is transitive up to a number without a minus sign, whatever the signs of the two below it
-- a negative one is at most every other
neg_test : (a b : ℕ) → (ltb 0 (a + b) || (eqb a b && (false || eqb a 0))) ≡ true
neg_test a b =
    split 0 (a + b)
    (λ h. simp (lt-ltb 0 (a + b) h))
    (λ h. let z : a ≡ 0 = omega arith in let w : b ≡ 0 = omega arith in simp (z, w))

negative : (m : ℕ) (e : ℤ) (n : ℕ) (g : ℤ) → le (fin true m e) (fin false n g) ≡ true
unfolding le lt eq
negative m e n g = neg_test (m * up e * down g) (n * up g * down e)

-- what is at most a negative one, and has no minus sign, is 0
zero_test : (a b : ℕ) → (false || (eqb a b && (false || eqb a 0))) ≡ true → a ≡ 0
zero_test a b h = eqb-true a 0 (and_r (eqb a b) (eqb a 0) h)

no_more : (u d : ℕ) → 0 < d → u * d ≡ 0 → u ≡ 0
no_more u d D e = elim (eq-zero-or-pos u) [ inl z ↦ z | inr U ↦ absurd (lt_irrefl 0 (rw e at (mul-pos U D))) ]

at_zero : (m : ℕ) (e : ℤ) (n : ℕ) (g : ℤ) → le (fin false m e) (fin true n g) ≡ true → m * up e ≡ 0
unfolding le lt eq
at_zero m e n g h = no_more (m * up e) (down g) (down_pos g) (zero_test (m * up e * down g) (n * up g * down e) h)

-- two without a minus sign, as fractions
plainly : (m : ℕ) (e : ℤ) (n : ℕ) (g : ℤ) → le (fin false m e) (fin false n g) ≡ leb (m * up e * down g) (n * up g * down e)
plainly m e n g = le_is (m * up e) (down e) (n * up g) (down g) (down_pos e) (down_pos g) (fin false m e) (fin false n g) (refl, refl) (refl, refl)

pub le_through : (t u x : Float) → is_finite t ≡ true → is_finite u ≡ true → Plain x → le t u ≡ true → le u x ≡ true → le t x ≡ true
le_through t u x T U p h k = go t u x T U p.value h k
  where
    go : (t u x : Float) → is_finite t ≡ true → is_finite u ≡ true → HasValue x false p.size ONE → le t u ≡ true → le u x ≡ true → le t x ≡ true
    go nan u x T U v h k = absurd (true≢false (sym T))
    go (inf s) u x T U v h k = absurd (true≢false (sym T))
    go (fin s m e) nan x T U v h k = absurd (true≢false (sym U))
    go (fin s m e) (inf r) x T U v h k = absurd (true≢false (sym U))
    go (fin s m e) (fin r n g) nan T U v h k = absurd v
    go (fin s m e) (fin r n g) (inf q) T U v h k = absurd v
    go (fin s m e) (fin r n g) (fin true l f) T U v h k = absurd (true≢false v.0)
    go (fin true m e) (fin r n g) (fin false l f) T U v h k = negative m e l f
    go (fin false m e) (fin true n g) (fin false l f) T U v h k =
        plainly m e l f ∙ rw (at_zero m e n g h) (le-leb (0 * down f) (l * up f * down e) (rw (zero-mul (down f)) (omega arith)))
    go (fin false m e) (fin false n g) (fin false l f) T U v h k =
        plainly m e l f
        ∙ le-leb (m * up e * down f) (l * up f * down e)
        (through (m * up e) (n * up g) (l * up f) (down e) (down g) (down f) (down_pos g)
        (leb-true (m * up e * down g) (n * up g * down e) (sym (plainly m e n g) ∙ h))
        (leb-true (n * up g * down f) (l * up f * down g) (sym (plainly n g l f) ∙ k)))

-- ---- of one text that is accepted
module _ (text classes pairs : List ℕ) where
  abbrev stops_at : Float → ℕ → Bool
  stops_at x = stops classes pairs text (Some x)

  abbrev stop_at : Float → ℕ
  stop_at x = stop_of classes pairs text (Some x)

  -- the score after so many characters
  abbrev told_at : ℕ → Bool → Score
  told_at k early =
      record {
        ratios = ratios (state_at classes pairs text k);
        sum = sum_of (state_at classes pairs text k);
        fed = k;
        stopped = early;
        counts = eight_shown (counts (state_at classes pairs text k)) (ratios (state_at classes pairs text k));
      }

  same : (s r : Score) → ◌≡◌ {A = Result Score Refusal} (Ok r) (Ok s) → s ≡ r
  same s r e = cc

  stopped_is : (x : Float) (s : Score) → accepted_score classes pairs text (Some x) ≡ Ok s → stop_at x < total text → s ≡ told_at (stop_at x + 1) true
  unfolding accepted_score scored
  stopped_is x s e l = same s (told_at (stop_at x + 1) true) (rw (lt-ltb (stop_at x) (total text) l) at e)

  whole_is : (x : Float) (s : Score) → accepted_score classes pairs text (Some x) ≡ Ok s → total text ≤ stop_at x → s ≡ told_at (total text) false
  unfolding accepted_score scored
  whole_is x s e l = same s (told_at (total text) false) (rw (le-ltb (stop_at x) (total text) l) at e)

module _ (text classes pairs : List ℕ) (t u : Float) (H : Higher t u) where
  module _ (short : length text ≤ LONGEST_TEXT) where
    sum_at : (i : ℕ) → i ≤ total text → Plain (sum_of (state_at classes pairs text i))
    unfolding sum_of
    sum_at i h = sum_plain (fractions (state_at classes pairs text i)) (fractions_proper i (state_at classes pairs text i) (state_within classes pairs text i) (omega arith))

    -- where the higher one stops the lower one does, if it has come so far
    stops_lower : (i : ℕ) → i < total text → stops_at text classes pairs u i ≡ true → stops_at text classes pairs t i ≡ true
    unfolding stops reaches
    stops_lower i h e =
        let c = and_l (checkpoint (length text) i) (le u (sum_of (state_at classes pairs text (i + 1)))) e in
        let r = and_r (checkpoint (length text) i) (le u (sum_of (state_at classes pairs text (i + 1)))) e in
        and_yes c (le_through t u (sum_of (state_at classes pairs text (i + 1))) H.lower_finite H.upper_finite (sum_at (i + 1) (omega arith)) H.at_most r)

    -- so the lower one's stop is no later
    stop_order : stop_at text classes pairs t ≤ stop_at text classes pairs u
    stop_order =
        split (stop_at text classes pairs u) (stop_at text classes pairs t)
        (λ l. let w = first_within (stops_at text classes pairs t) (total text) in
        let f = first_found (stops_at text classes pairs u) (total text) (omega arith) in
        absurd (true≢false (sym (stops_lower (stop_at text classes pairs u) (omega arith) f) ∙ first_before (stops_at text classes pairs t) (total text) (stop_at text classes pairs u) l)))
        (λ l. l)

  abbrev Both : Score → Score → Type 0
  Both low high = Compared low high × (high.stopped ≡ true → low.stopped ≡ true)

  module _ (short : length text ≤ LONGEST_TEXT) (low high : Score)
      (l : accepted_score classes pairs text (Some t) ≡ Ok low) (h : accepted_score classes pairs text (Some u) ≡ Ok high) where
    order : stop_at text classes pairs t ≤ stop_at text classes pairs u
    order = stop_order short

    both_stop : stop_at text classes pairs t < total text → stop_at text classes pairs u < total text → Both low high
    both_stop a b =
        rw (stopped_is text classes pairs t low l a, stopped_is text classes pairs u high h b) (
          record {
            never_fewer = omega (arith, order);
            same_whole = λ e. absurd (true≢false e);
            same_place = λ e f p. let z : stop_at text classes pairs t + 1 ≡ stop_at text classes pairs u + 1 = p in ap (λ (k : ℕ). told_at text classes pairs k true) (sym z);
          },
          λ e. refl,
        )

    lower_stops : stop_at text classes pairs t < total text → total text ≤ stop_at text classes pairs u → Both low high
    lower_stops a b =
        rw (stopped_is text classes pairs t low l a, whole_is text classes pairs u high h b) (
          record {
            never_fewer = omega arith;
            same_whole = λ e. absurd (true≢false e);
            same_place = λ e f p. absurd (true≢false (sym f));
          },
          λ e. refl,
        )

    none_stops : total text ≤ stop_at text classes pairs t → Both low high
    none_stops a =
        let b : total text ≤ stop_at text classes pairs u = omega (arith, order) in
        rw (whole_is text classes pairs t low l a, whole_is text classes pairs u high h b) (
          record {
            never_fewer = omega arith;
            same_whole = λ e. refl;
            same_place = λ e f p. refl;
          },
          λ e. e,
        )

    compared : Both low high
    compared = split (stop_at text classes pairs t) (total text) (λ a. split (stop_at text classes pairs u) (total text) (both_stop a) (lower_stops a)) none_stops

-- ---- of the whole call
module _ (text classes pairs : List ℕ) (t u : Float) where
  -- whether a text is accepted hangs on no finite threshold
  pub accepted_alike : is_finite t ≡ true → is_finite u ≡ true → causes text t classes pairs ≡ causes text u classes pairs
  unfolding causes not_finite
  accepted_alike T U = rw (T, U)

  -- the three sentences
  pub higher_compared : Higher t u → (low high : Score) → mess_ratio text t classes pairs ≡ Ok low → mess_ratio text u classes pairs ≡ Ok high → Compared low high
  higher_compared H low high e f =
      let a = scored_faultless text t classes pairs low e in
      (compared text classes pairs t u H a.faultless.short low high a.is (scored_faultless text u classes pairs high f).is).0

  -- a line that stops early at the higher one stops early at the lower one
  pub stops_only_shrink : Higher t u → (low high : Score) → mess_ratio text t classes pairs ≡ Ok low → mess_ratio text u classes pairs ≡ Ok high
      → high.stopped ≡ true → low.stopped ≡ true
  stops_only_shrink H low high e f =
      let a = scored_faultless text t classes pairs low e in
      (compared text classes pairs t u H a.faultless.short low high a.is (scored_faultless text u classes pairs high f).is).1

-- ---- a threshold that no sum reaches
module _ (k : ℕ) (s : Detectors) (w : Within k s) (h : k ≤ LONGEST_TEXT + 1) where
  small : EachSmall (counts s)
  small = within_countable k s w (omega arith)

  -- few CJK stops to one character where they are kept
  stops_most : (fraction_of (stop.counts s.stops)).num ≤ 4096 * (fraction_of (stop.counts s.stops)).den
  unfolding fraction_of stop.counts
  stops_most =
      by_test (λ (f : Fraction). f.num ≤ 4096 * f.den) (stop.keeps s.stops && not (eqb s.stops.cjk 0)) (stop.share s.stops) nothing
      (λ e. let c = leb-true stop.FEWEST s.stops.cjk (and_l (stop.keeps s.stops) (not (eqb s.stops.cjk 0)) e) in
      omega (arith, w.stops.counted))
      (λ e. omega arith)

  each_most : CountsAtMost (eight_shown (counts s) (ratios s))
  each_most = counts_at_most k s w

  sum_up_to : UpTo HIGHEST (sum_of s)
  unfolding sum_of sum ratios_of fractions_of counts eight_shown shown
  sum_up_to =
      let most = each_most in
      let k1 = rounded_up_to 2 _ (lit≤ tt) (fraction_proper _ small.0) (fraction_bound 2 _ most.symbols) in
      let k2 = rounded_up_to 1 _ (lit≤ tt) (fraction_proper _ small.1.0) (fraction_bound 1 _ most.accents) in
      let k3 = rounded_up_to 8 _ (lit≤ tt) (fraction_proper _ small.1.1.0) (fraction_bound 8 _ most.unprintable) in
      let k4 = rounded_up_to 2 _ (lit≤ tt) (fraction_proper _ small.1.1.1.0) (fraction_bound 2 _ most.ranges) in
      let k5 = rounded_up_to 4 _ (lit≤ tt) (fraction_proper _ small.1.1.1.1.0) (fraction_bound 4 _ most.doubled) in
      let k6 = rounded_up_to 1 _ (lit≤ tt) (fraction_proper _ small.1.1.1.1.1.0) (fraction_bound 1 _ most.words) in
      let k7 = rounded_up_to 4096 _ (lit≤ tt) (fraction_proper _ small.1.1.1.1.1.1.0) stops_most in
      let k8 = rounded_up_to 1 _ (lit≤ tt) (fraction_proper _ small.1.1.1.1.1.1.1.0) (fraction_bound 1 _ most.archaic) in
      up_to_plus 4114 1 _ _ (lit≤ tt)
      (up_to_plus 18 4096 _ _ (lit≤ tt)
      (up_to_plus 17 1 _ _ (lit≤ tt)
      (up_to_plus 13 4 _ _ (lit≤ tt)
      (up_to_plus 11 2 _ _ (lit≤ tt) (up_to_plus 3 8 _ _ (lit≤ tt) (up_to_plus 2 1 _ _ (lit≤ tt) k1 k2) k3) k4)
      k5)
      k6)
      k7)
      k8

pub above_all : (text classes pairs : List ℕ) (u : Float) → is_finite u ≡ true → lt HIGHEST_F32 u ≡ true
    → (s : Score) → mess_ratio text u classes pairs ≡ Ok s → s.stopped ≡ false
unfolding stops reaches
above_all text classes pairs u U h s e =
    let a = scored_faultless text u classes pairs s e in
    let f = first_none (stops classes pairs text (Some u)) (total text) (λ j l. never j l a.faultless.short) in
    ap (λ (r : Score). r.stopped) (whole_is text classes pairs u s a.is (omega (arith, f)))
  where
    highest : UpTo HIGHEST (whole HIGHEST)
    highest = whole_up_to HIGHEST (lit≤ tt)

    plain : (k : ℕ) (x : Float) → UpTo k x → Plain x
    plain k x b = plain_of x b.parts b.value

    not_below : le u (whole HIGHEST) ≡ false
    not_below = flip (le u (whole HIGHEST)) (sym (lt_not_le (whole HIGHEST) u (plain HIGHEST (whole HIGHEST) highest).is_finite_holds U) ∙ h)
      where
        flip : (b : Bool) → not b ≡ true → b ≡ false
        flip true n = absurd (true≢false (sym n))
        flip false n = refl

    nothing_more : (b : Bool) → b && false ≡ false
    nothing_more true = refl
    nothing_more false = refl

    never : (j : ℕ) → j < total text → length text ≤ LONGEST_TEXT → stops classes pairs text (Some u) j ≡ false
    never j l short =
        let x = sum_of (state_at classes pairs text (j + 1)) in
        let b = sum_up_to (j + 1) (state_at classes pairs text (j + 1)) (state_within classes pairs text (j + 1)) (omega arith) in
        by_bool (le u x)
        (λ t. absurd
        (true≢false
        (sym (le_through u x (whole HIGHEST) U (plain HIGHEST x b).is_finite_holds (plain HIGHEST (whole HIGHEST) highest) t (up_to_whole HIGHEST x (lit≤ tt) b))
        ∙ not_below)))
        (λ t. ap (λ (z : Bool). checkpoint (length text) j && z) t ∙ nothing_more (checkpoint (length text) j))
