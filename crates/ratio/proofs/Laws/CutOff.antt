-- The comparison of a ratio with a literal, both rounded, is that of the fractions. Where a/c and p/q differ, they differ by one part in
-- p * c at least, which is more than two roundings take away as long as p * c is below 2 ^ 23. Once over two fractions (`least_alike`, `most_alike`,
-- `above_alike`), then over a literal that is p/q rounded (`decides_alike`), and then at the crate's five literals.
-- Assumes nothing.
use Prim.Native.Nat.{ℕ, ◌+◌, ◌*◌, ◌^◌, ◌≤◌, ◌<◌}
use mathlib.Core.Path.{◌≡◌, refl, sym, ap, ◌∙◌}
use mathlib.Core.Bool.{Bool, true, false, cond, not, ◌&&◌}
use native.Mathlib.Nat.{mul-le-mul_left, mul-le-mul_right, mul_comm, le_of_mul-le-mul_right, lt_of_le_of_lt}
use native.Mathlib.Omega.{arith}
use borrow.Author.Tests.{leb-true, ne_eqb}
use lib.Dec.{leb, ltb, eqb, lit<, lit≤}
use lib.Pow.{pow_pos}
use lib.Ieee.{Float, binary32, round, of_bits, le, lt}
use lib.Ieee.Bits.{is_true}
use lib.Ieee.Order.{round_mono}
use Rattle.base.proofs.Laws.Tests.{split}
use Rattle.ratio.specs.declared.Fraction.{Fraction}
use Rattle.ratio.specs.Inner.Fraction.{MOST_DEN, Proper}
use Rattle.ratio.specs.Fraction.{counts_of, nothing, fraction_of, at_least}
use Rattle.ratio.specs.Rounded.{rounded}
use Rattle.ratio.specs.Parts.{ONE}
use Rattle.ratio.specs.Finite.{is_finite}
use Rattle.ratio.proofs.Laws.Once.{U, Once}
use Rattle.ratio.proofs.Laws.Comparing.{test_is, le_is, lt_not_le, ltb_not}
use Rattle.ratio.proofs.Laws.Rounded.{parts_of, rounded_once, rounded_value, rounded_plain, rounded_nothing}
use Rattle.ratio.specs.CutOffs.{at_most}
use Rattle.ratio.proofs.Laws.CutOffs.{CutOff, three_tenths, seven_twentieths, one_tenth, seventeen_fiftieths, one_fifth, DecidesAlike}

module _ (l g p q h a c : ℕ) (L : 0 < l) (small : p * c < 2 ^ 23) (x : Once (g * q) (p * l)) (y : Once (h * c) (a * l)) where
  order_low : g ≤ h → p * c ≤ a * q
  order_low k = split (a * q) (p * c) (λ d. absurd (much (clash d))) (λ d. d)
    where
      clash : a * q < p * c → U < 2 * (p * c)
      clash d = le_of_mul-le-mul_right {k = l} (omega (arith, mul-le-mul_right c x.1, mul-le-mul_right q y.0, mul-le-mul_right (q * c) k, mul-le-mul_right l d)) L

      much : U < 2 * (p * c) → ⊥
      much z = omega arith

  order_high : h ≤ g → a * q ≤ p * c
  order_high k = split (p * c) (a * q) (λ d. absurd (much (clash d))) (λ d. d)
    where
      clash : p * c < a * q → U ≤ 2 * (p * c) + 1
      clash d = le_of_mul-le-mul_right {k = l} (omega (arith, mul-le-mul_right c x.0, mul-le-mul_right q y.1, mul-le-mul_right (q * c) k, mul-le-mul_right l d)) L

      much : U ≤ 2 * (p * c) + 1 → ⊥
      much z = omega arith

-- ---- two ratios, in parts
parts_le : (e f : Fraction) → Proper e → Proper f → le (rounded e) (rounded f) ≡ true → parts_of e ≤ parts_of f
parts_le e f E F t =
    le_of_mul-le-mul_right
    (leb-true (parts_of e * ONE) (parts_of f * ONE)
    (sym (le_is (parts_of e) ONE (parts_of f) ONE (pow_pos 149) (pow_pos 149) (rounded e) (rounded f) (rounded_value e E) (rounded_value f F)) ∙ t))
    (pow_pos 149)

rounded_mono : (e f : Fraction) → Proper e → Proper f → e.num * f.den ≤ f.num * e.den → le (rounded e) (rounded f) ≡ true
unfolding rounded
rounded_mono e f E F h = is_true (le (rounded e) (rounded f)) (round_mono binary32 e.num e.den f.num f.den E.positive F.positive h)

-- two fractions rounded are in the order of the fractions, as long as the numerator of the one times the denominator of the other is below 2 ^ 23
module _ (k f : Fraction) (K : Proper k) (F : Proper f) (near : k.num * f.den < 2 ^ 23) where
  pub least_alike : le (rounded k) (rounded f) ≡ leb (k.num * f.den) (f.num * k.den)
  least_alike =
      test_is (le (rounded k) (rounded f)) (k.num * f.den) (f.num * k.den) (rounded_mono k f K F)
      (λ t. order_low ONE (parts_of k) k.num k.den (parts_of f) f.num f.den (pow_pos 149) near (rounded_once k K) (rounded_once f F) (parts_le k f K F t))

  pub most_alike : le (rounded f) (rounded k) ≡ leb (f.num * k.den) (k.num * f.den)
  most_alike =
      test_is (le (rounded f) (rounded k)) (f.num * k.den) (k.num * f.den) (rounded_mono f k F K)
      (λ t. order_high ONE (parts_of k) k.num k.den (parts_of f) f.num f.den (pow_pos 149) near (rounded_once k K) (rounded_once f F) (parts_le f k F K t))

  -- the same for `<`
  pub above_alike : lt (rounded k) (rounded f) ≡ ltb (k.num * f.den) (f.num * k.den)
  above_alike =
      lt_not_le (rounded k) (rounded f) (rounded_plain k K).is_finite_holds (rounded_plain f F).is_finite_holds
      ∙ ap not most_alike ∙ sym (ltb_not (k.num * f.den) (f.num * k.den))

-- ---- the law, once over the literal and p / q
abbrev as_fraction : CutOff → Fraction
as_fraction k = record { num = k.p; den = k.q }

proper : (k : CutOff) → 0 < k.q → k.q ≤ MOST_DEN → k.p * MOST_DEN < 2 ^ 23 → Proper (as_fraction k)
proper k h l small = record { small = record { num = omega arith; den = l }; positive = h }

pub decides_alike : (k : CutOff) → 0 < k.q → k.q ≤ MOST_DEN → k.p * MOST_DEN < 2 ^ 23 → k.literal ≡ rounded (as_fraction k) → DecidesAlike k
unfolding at_least
decides_alike k h l small e =
    let x = as_fraction k in
    let K = proper k h l small in
    let near : (f : Fraction) → Proper f → k.p * f.den < 2 ^ 23 = λ f F. lt_of_le_of_lt (mul-le-mul_left k.p F.small.den) small in
    let least : (f : Fraction) → Proper f → le k.literal (rounded f) ≡ at_least k.p k.q f
    = λ f F. ap (λ (z : Float). le z (rounded f)) e ∙ least_alike x f K F (near f F) ∙ ap (λ (z : ℕ). leb (k.p * f.den) z) (mul_comm f.num k.q) in
    let most : (f : Fraction) → Proper f → le (rounded f) k.literal ≡ at_most k.p k.q f
    = λ f F. ap (λ (z : Float). le (rounded f) z) e ∙ most_alike x f K F (near f F) ∙ ap (λ (z : ℕ). leb z (k.p * f.den)) (mul_comm f.num k.q) in
    let fine : is_finite k.literal ≡ true = ap is_finite e ∙ (rounded_plain x K).is_finite_holds in
    record {
      at_least_holds = least;
      at_most_here = most;
      below = λ f F. lt_not_le (rounded f) k.literal (rounded_plain f F).is_finite_holds fine ∙ ap not (least f F);
      above = λ f F. lt_not_le k.literal (rounded f) fine (rounded_plain f F).is_finite_holds ∙ ap not (most f F) ∙ sym (ltb_not (k.p * f.den) (k.q * f.num));
    }

-- what the crate does with such a ratio, `if ratio >= literal { ratio } else { 0.0 }`, gives the f32 of the fraction that is kept
pub kept_alike : (k : CutOff) → DecidesAlike k → (f : Fraction) → Proper f
    → cond (le k.literal (rounded f)) (rounded f) (of_bits binary32 0) ≡ rounded (fraction_of (counts_of f (at_least k.p k.q f)))
unfolding fraction_of
kept_alike k h f F =
    let d : eqb f.den 0 ≡ false = ne_eqb f.den 0 (λ (z : f.den ≡ 0). zero F.positive z) in
    rw (h.at_least_holds f F, d) (go (at_least k.p k.q f))
  where
    zero : 0 < f.den → f.den ≡ 0 → ⊥
    zero p z = omega arith

    go : (b : Bool) → cond b (rounded f) (of_bits binary32 0) ≡ rounded (cond (b && not false) f nothing)
    go true = refl
    go false = sym rounded_nothing

-- ---- the crate's literals: antt runs both sides
pub three_tenths_alike : DecidesAlike three_tenths
unfolding rounded round of_bits
three_tenths_alike = decides_alike three_tenths (lit< tt) (lit≤ tt) (lit< tt) refl

pub seven_twentieths_alike : DecidesAlike seven_twentieths
unfolding rounded round of_bits
seven_twentieths_alike = decides_alike seven_twentieths (lit< tt) (lit≤ tt) (lit< tt) refl

pub one_tenth_alike : DecidesAlike one_tenth
unfolding rounded round of_bits
one_tenth_alike = decides_alike one_tenth (lit< tt) (lit≤ tt) (lit< tt) refl

pub seventeen_fiftieths_alike : DecidesAlike seventeen_fiftieths
unfolding rounded round of_bits
seventeen_fiftieths_alike = decides_alike seventeen_fiftieths (lit< tt) (lit≤ tt) (lit< tt) refl

pub one_fifth_alike : DecidesAlike one_fifth
unfolding rounded round of_bits
one_fifth_alike = decides_alike one_fifth (lit< tt) (lit≤ tt) (lit< tt) refl
