-- What is shown of a detector beside its ratio: the mark is the cut_off, in both directions, the ratio follows from the three, and the fraction of
-- demand 3 is, as a number, the two counts (`shown_tells`, `shown_shares`; of all eight: `each_tells`, `each_shares`).
-- Assumes nothing.
use Prim.Native.Nat.{ℕ, ◌+◌, ◌*◌, ◌≤◌, ◌<◌}
use mathlib.Core.Path.{◌≡◌, refl, sym, ap, ◌∙◌}
use mathlib.Core.Bool.{true, false, cond, ◌&&◌, ◌||◌, true≢false}
use mathlib.Core.Logic.{inl, inr}
use native.Mathlib.Nat.{mul-pos, zero-mul, lt_irrefl, eq-zero-or-pos}
use native.Mathlib.Omega.{arith}
use lib.Dec.{ltb, eqb, lit<}
use lib.Pow.{pow_pos}
use lib.IntN.{pos}
use lib.Ieee.{Float, nan, inf, fin, binary32, of_bits, eq, up, down}
use lib.Ieee.Exact.{HasValue}
use lib.Ieee.Fits.{down_pos}
use lib.Ieee.Scale.{round_same}
use borrow.Author.Tests.{ne_eqb, eq-eqb, lt-ltb, ltb-true}
use Rattle.base.proofs.Laws.Tests.{by_bool, and_l, and_r, and_yes}
use Rattle.ratio.specs.declared.Fraction.{Fraction}
use Rattle.ratio.specs.declared.Counts.{Counts}
use Rattle.ratio.specs.declared.EightCounts.{EightCounts}
use Rattle.ratio.specs.Fraction.{share_of, nothing, fraction_of}
use Rattle.ratio.specs.Rounded.{rounded, ZERO}
use Rattle.ratio.specs.Eight.{fractions_of, ratios}
use Rattle.ratio.specs.Parts.{ONE}
use Rattle.ratio.specs.Shown.{shown, eight_shown, cut_off, ratio_from, Tells, Shares, EachTells, EachShares}
use Rattle.ratio.specs.Inner.Fraction.{Small, Proper}
use Rattle.ratio.specs.Inner.Eight.{EachSmall}
use Rattle.ratio.proofs.Laws.Fraction.{fraction_proper}
use Rattle.ratio.proofs.Laws.Once.{Once}
use Rattle.ratio.proofs.Laws.Rounded.{parts_of, rounded_once, rounded_value, rounded_nothing}

-- ---- a float of more than 0 parts is not 0
no_parts : (u c a d k : ℕ) → u * 1 ≡ 0 * k → u * c ≡ a * d → a * d ≡ 0
no_parts u c a d k e v = let z : u ≡ 0 = omega (arith, zero-mul k) in sym v ∙ ap (λ (n : ℕ). n * c) z ∙ zero-mul c

not_zero : (x : Float) (a c : ℕ) → HasValue x false a c → 0 < a → eq x ZERO ≡ false
unfolding eq of_bits
not_zero nan a c v P = absurd v
not_zero (inf t) a c v P = absurd v
not_zero (fin t m e) a c v P =
    let d : 0 < a * down e = mul-pos P (down_pos e) in
    simp (ne_eqb (m * up e * down (pos 0)) (0 * up (pos 0) * down e) (λ z.
    let n : a * down e ≡ 0 = no_parts (m * up e) c a (down e) (down e) z v.1 in absurd (lt_irrefl 0 (rw n at d))))

-- ---- a fraction above 0 does not round to 0
some_parts : (p q n l : ℕ) → 0 < n → 0 < l → Once (p * q) (n * l) → 0 < p
some_parts p q n l N L o =
    elim (eq-zero-or-pos p) [ inl z ↦ let w : p * q ≡ 0 = ap (λ (k : ℕ). k * q) z ∙ zero-mul q in absurd (none (p * q) (n * l) w (mul-pos N L) o) | inr P ↦ P ]
  where
    none : (w v : ℕ) → w ≡ 0 → 0 < v → Once w v → ⊥
    none w v e P o = omega arith

above_zero : (f : Fraction) → Proper f → 0 < f.num → eq (rounded f) ZERO ≡ false
above_zero f h P = not_zero (rounded f) (parts_of f) ONE (rounded_value f h) (some_parts (parts_of f) f.den f.num ONE P (pow_pos 149) (rounded_once f h))

-- 0 over anything rounds to +0.0
zero_rounded : (d : ℕ) → 0 < d → rounded (record { num = 0; den = d }) ≡ ZERO
unfolding rounded
zero_rounded d P = round_same binary32 false 0 d 0 1 P (lit< tt) (omega arith) ∙ rounded_nothing

-- ---- the fraction of counts, by whether it is kept
kept_fraction : (c : Counts) → c.kept ≡ true → 0 < c.denominator → fraction_of c ≡ share_of c
unfolding fraction_of
kept_fraction c k P = simp (k, ne_eqb c.denominator 0 (λ z. lt_irrefl 0 (rw z at P)))

cut_fraction : (c : Counts) → c.kept ≡ false → fraction_of c ≡ nothing
unfolding fraction_of
cut_fraction c k = simp k

empty_fraction : (c : Counts) → c.denominator ≡ 0 → fraction_of c ≡ nothing
unfolding fraction_of
empty_fraction c z = by_bool c.kept (λ k. simp (k, z)) (λ k. simp k)

zero_zero : eq ZERO ZERO ≡ true
unfolding eq of_bits
zero_zero = refl

no_mark : (num den : ℕ) (r : Float) → num ≡ 0 → cut_off num den r ≡ false
no_mark num den r z = simp z

-- 0 or above
zero_or : {A : Type 0} (n : ℕ) → (n ≡ 0 → A) → (0 < n → A) → A
zero_or n f g = elim (eq-zero-or-pos n) [ inl z ↦ f z | inr p ↦ g p ]

module _ (c : Counts) (h : Small (share_of c)) where
  abbrev num : ℕ
  num = c.numerator

  abbrev den : ℕ
  den = c.denominator

  abbrev ratio : Float
  ratio = rounded (fraction_of c)

  cut_ratio : c.kept ≡ false → ratio ≡ ZERO
  cut_ratio k = ap rounded (cut_fraction c k) ∙ rounded_nothing

  kept_ratio : c.kept ≡ true → 0 < den → 0 < num → eq ratio ZERO ≡ false
  kept_ratio k D N = rw (kept_fraction c k D) (above_zero (share_of c) (record { small = h; positive = D }) N)

  -- the mark, by the cut_off
  marked : c.kept ≡ false → 0 < num → 0 < den → cut_off num den ratio ≡ true
  marked k N D = and_yes (and_yes (lt-ltb 0 num N) (lt-ltb 0 den D)) (rw (cut_ratio k) zero_zero)

  unmarked : c.kept ≡ true → 0 < den → cut_off num den ratio ≡ false
  unmarked k D = zero_or num (no_mark num den ratio) (λ N. simp (kept_ratio k D N, lt-ltb 0 num N, lt-ltb 0 den D))

  -- where it is marked, it was not kept
  not_kept : cut_off num den ratio ≡ true → (0 < num) × (0 < den) × (c.kept ≡ false)
  not_kept e =
      let both = and_l (ltb 0 num && ltb 0 den) (eq ratio ZERO) e in
      let N = ltb-true 0 num (and_l (ltb 0 num) (ltb 0 den) both) in
      let D = ltb-true 0 den (and_r (ltb 0 num) (ltb 0 den) both) in
      let z = and_r (ltb 0 num && ltb 0 den) (eq ratio ZERO) e in
      (N, D, by_bool c.kept (λ k. absurd (true≢false (sym z ∙ kept_ratio k D N))) (λ k. k))

  ratio_is : ratio ≡ cond (cut_off num den ratio || eqb den 0) ZERO (rounded (share_of c))
  ratio_is =
      zero_or den
      (λ z. let e = ap rounded (empty_fraction c z) ∙ rounded_nothing in
      by_bool (cut_off num den ratio) (λ b. simp b e) (λ b. simp (b, eq-eqb den 0 z) e))
      (λ D. let n = ne_eqb den 0 (λ (z : den ≡ 0). lt_irrefl 0 (rw z at D)) in
      by_bool c.kept
      (λ k. simp (unmarked k D, n) (ap rounded (kept_fraction c k D)))
      (λ k. zero_or num
      (λ z. simp (no_mark num den ratio z, n) (cut_ratio k ∙ sym (rw z (zero_rounded den D))))
      (λ N. simp (marked k N D) (cut_ratio k))))

  pub shown_tells : Tells (shown c ratio) ratio
  unfolding shown
  shown_tells =
      record {
        if_marked = λ e. let m = not_kept e in (m.0, m.1, cut_ratio m.2);
        marked_if = λ N D z. and_yes (and_yes (lt-ltb 0 num N) (lt-ltb 0 den D)) (rw z zero_zero);
        is_ratio = ratio_is;
      }

  pub shown_shares : Shares (shown c ratio) (fraction_of c)
  unfolding shown
  shown_shares =
      record {
        counts = λ e D. by_bool c.kept (λ k. rw (kept_fraction c k D) refl) (λ k. zero_or num
            (λ z. rw (cut_fraction c k, z) (zero-mul den ∙ sym (zero-mul 1)))
            (λ N. absurd (true≢false (sym (marked k N D) ∙ e))));
        cut_off_holds = λ e. ap (λ (f : Fraction). f.num) (cut_fraction c (not_kept e).2);
        over_nothing = λ z. ap (λ (f : Fraction). f.num) (empty_fraction c z);
      }

-- of all eight
pub each_tells : (c : EightCounts) → EachSmall c → EachTells (eight_shown c (ratios (fractions_of c))) (ratios (fractions_of c))
unfolding eight_shown ratios fractions_of
each_tells c h =
    record {
      symbols = shown_tells c.symbols h.0;
      accents = shown_tells c.accents h.1.0;
      unprintable = shown_tells c.unprintable h.1.1.0;
      ranges = shown_tells c.ranges h.1.1.1.0;
      doubled = shown_tells c.doubled h.1.1.1.1.0;
      words = shown_tells c.words h.1.1.1.1.1.0;
      stops = shown_tells c.stops h.1.1.1.1.1.1.0;
      archaic = shown_tells c.archaic h.1.1.1.1.1.1.1.0;
    }

pub each_shares : (c : EightCounts) → EachSmall c → EachShares (eight_shown c (ratios (fractions_of c))) (fractions_of c)
unfolding eight_shown ratios fractions_of
each_shares c h =
    record {
      symbols = shown_shares c.symbols h.0;
      accents = shown_shares c.accents h.1.0;
      unprintable = shown_shares c.unprintable h.1.1.0;
      ranges = shown_shares c.ranges h.1.1.1.0;
      doubled = shown_shares c.doubled h.1.1.1.1.0;
      words = shown_shares c.words h.1.1.1.1.1.0;
      stops = shown_shares c.stops h.1.1.1.1.1.1.0;
      archaic = shown_shares c.archaic h.1.1.1.1.1.1.1.0;
    }
