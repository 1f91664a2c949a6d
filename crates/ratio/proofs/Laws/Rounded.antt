-- A fraction within its bounds, rounded: how many parts of 2 ^ -149 it is and how far from the fraction (`rounded_once`), that it is
-- finite and has no minus sign (`rounded_plain`, `ratios_plain`), that the quotient of two f32 counts is it (`rounded_is`, `rounded_factored`), that 0 over 1 gives +0.0
-- (`rounded_nothing`), and that num <= k * den gives a ratio of at most k (`rounded_at_most`, `ratio_at_most`).
-- Assumes nothing.
use Prim.Native.Nat.{ℕ, ◌*◌, ◌^◌, ◌≤◌, ◌<◌}
use mathlib.Core.Path.{◌≡◌, refl, sym, subst}
use mathlib.Core.Bool.{true, false}
use mathlib.Core.Logic.{inl, inr}
use native.Mathlib.Nat.{lt_of_le_of_lt, mul-le-mul_right, mul-le-mul_left, mul-one, eq-zero-or-pos}
use native.Mathlib.Omega.{arith}
use lib.Dec.{lit<, lit≤}
use lib.IntN.{pos}
use lib.Ieee.{binary32, round, mul, div, of_int, of_bits, le}
use lib.Ieee.Bits.{is_true}
use lib.Ieee.Exact.{HasValue}
use lib.Ieee.Order.{round_mono}
use lib.Ieee.Scale.{grid, round_val}
use Rattle.base.proofs.Laws.All.{all_map}
use Rattle.ratio.specs.declared.Fraction.{Fraction}
use Rattle.ratio.specs.declared.Counts.{Counts}
use Rattle.ratio.specs.Inner.Fraction.{MOST_NUM, MOST_DEN, Small, Proper}
use Rattle.ratio.specs.Fraction.{share_of, nothing, fraction_of}
use Rattle.ratio.proofs.Laws.Fraction.{fraction_proper, fraction_bound}
use Rattle.ratio.specs.Rounded.{rounded}
use Rattle.ratio.specs.Eight.{ratios, Fractions}
use Rattle.ratio.specs.Inner.Eight.{EachPlain, list_fractions, EachProper}
use Rattle.ratio.specs.Parts.{ONE}
use Rattle.ratio.specs.Inner.Finite.{Plain}
use Rattle.ratio.proofs.Laws.Finite.{plain_of}
use Rattle.ratio.proofs.Laws.Once.{Once}
use Rattle.ratio.proofs.Laws.Grid.{grid_once, grid_zero}
use Rattle.ratio.proofs.Laws.Operations.{counts_divided, counts_factored}

-- numbers, with l parts to one
none : (q l : ℕ) → Once (0 * q) (0 * l)
none q l = omega arith

normal : (p q l : ℕ) → 0 < p → q ≤ MOST_DEN → 2 ^ 42 ≤ l → 2 ^ 23 * q ≤ p * l
normal p q l P Q L = omega (arith, mul-le-mul_right l P)

few : (r p q l : ℕ) → p ≤ MOST_NUM → 0 < q → Once (r * q) (p * l) → r ≤ 2 * MOST_NUM * l
few r p q l P Q o = omega (arith, mul-le-mul_right l P, mul-le-mul_left r Q)

-- the parts that a fraction is rounded to
abbrev pub parts_of : Fraction → ℕ
parts_of f = grid binary32 f.num f.den

pub rounded_once : (f : Fraction) → Proper f → Once (parts_of f * f.den) (f.num * ONE)
rounded_once f h = go f.num f.den h.positive h.small.den
  where
    go : (p q : ℕ) → 0 < q → q ≤ MOST_DEN → Once (grid binary32 p q * q) (p * ONE)
    go p q Q R =
        elim (eq-zero-or-pos p) [
          | inl e ↦ subst (λ (z : ℕ). Once (grid binary32 z q * q) (z * ONE)) (sym e) (subst (λ (z : ℕ). Once (z * q) (0 * ONE)) (sym (grid_zero q Q)) (none q ONE))
          | inr P ↦ grid_once p q Q (normal p q ONE P R (lit≤ tt))
        ]

pub rounded_value : (f : Fraction) → Proper f → HasValue (rounded f) false (parts_of f) ONE
unfolding rounded
rounded_value f h =
    round_val binary32 f.num f.den
    (lt_of_le_of_lt (few (parts_of f) f.num f.den ONE h.small.num h.positive (rounded_once f h)) (lit< tt))

pub rounded_plain : (f : Fraction) → Proper f → Plain (rounded f)
rounded_plain f h = plain_of (rounded f) (parts_of f) (rounded_value f h)

pub ratios_plain : (f : Fractions) → EachProper f → EachPlain (ratios f)
unfolding ratios
ratios_plain f h = all_map Proper Plain rounded rounded_plain (list_fractions f) h

-- an f32 holds both counts
num_exact : (n : ℕ) → n ≤ MOST_NUM → n ≤ 2 ^ 24
num_exact n h = omega arith

den_exact : (n : ℕ) → n ≤ MOST_DEN → n ≤ 2 ^ 24
den_exact n h = omega arith

pub rounded_is : (f : Fraction) → Proper f → div binary32 (of_int binary32 (pos f.num)) (of_int binary32 (pos f.den)) ≡ rounded f
unfolding rounded
rounded_is f h = counts_divided f.num f.den (num_exact f.num h.small.num) h.positive (den_exact f.den h.small.den)

-- the crate's quotient where it multiplies the count before: `count as f32 * 8.0 / all as f32`
pub rounded_factored : (a k n : ℕ) → 0 < k → k ≤ 2 ^ 24 → Proper (record { num = a * k; den = n })
    → div binary32 (mul binary32 (of_int binary32 (pos a)) (of_int binary32 (pos k))) (of_int binary32 (pos n)) ≡ rounded (record { num = a * k; den = n })
unfolding rounded
rounded_factored a k n K L h =
    counts_factored a k n (within (a * k) a (mul-le-mul_left a K) h.small.num) L (num_exact (a * k) h.small.num) h.positive (den_exact n h.small.den)
  where
    within : (m a : ℕ) → a * 1 ≤ m → m ≤ MOST_NUM → a ≤ 2 ^ 24
    within m a h k = omega arith

pub rounded_nothing : rounded nothing ≡ of_bits binary32 0
unfolding rounded round of_bits
rounded_nothing = refl

pub rounded_at_most : (k : ℕ) (f : Fraction) → Proper f → f.num ≤ k * f.den → le (rounded f) (of_int binary32 (pos k)) ≡ true
unfolding rounded of_int
rounded_at_most k f h m =
    is_true (le (round binary32 false f.num f.den) (round binary32 false k 1))
    (round_mono binary32 f.num f.den k 1 h.positive (lit< tt) (rw mul-one m))

-- so has the ratio of counts
pub ratio_at_most : (k : ℕ) (c : Counts) → Small (share_of c) → c.numerator ≤ k * c.denominator → le (rounded (fraction_of c)) (of_int binary32 (pos k)) ≡ true
ratio_at_most k c s h = rounded_at_most k (fraction_of c) (fraction_proper c s) (fraction_bound k c h)
