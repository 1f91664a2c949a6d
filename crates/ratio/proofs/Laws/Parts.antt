-- Every finite value that an f32 holds is a whole number of parts of 2 ^ -149, and `parts` is that number.
-- Assumes nothing.
use Prim.Native.Nat.{ℕ, zero, suc, ◌-◌, ◌*◌, ◌/◌, ◌%◌, ◌^◌, ◌≤◌, ◌<◌}
use mathlib.Core.Path.{◌≡◌, refl, sym, ap, ◌∙◌}
use mathlib.Core.Bool.{Bool, ◌&&◌}
use native.Mathlib.Nat.{le_of_suc-le-suc, lt_of_not-le, not-le_of_lt, mul-one, mul_assoc, zero-mul, mul-div_cancel}
use lib.IntN.{pos, negsuc, neg_ℤ}
use lib.Dec.{T, leb, ltb, eqb, leb→le}
use lib.Pow.{pow-add, pow-lt}
use lib.Ieee.{Float, nan, inf, fin, binary32, up, down, fits, of_bits}
use lib.Ieee.Digits.{back}
use lib.Ieee.Exact.{HasValue}
use lib.Ieee.Fits.{down_pos, and_l, and_r}
use Rattle.ratio.specs.Parts.{ONE, signed, parts}
use Rattle.ratio.specs.Finite.{is_finite}

pub parts_is : (x : Float) (s : Bool) (w : ℕ) → HasValue x s w ONE → parts x ≡ signed s w
unfolding parts
parts_is nan s w h = absurd h
parts_is (inf t) s w h = absurd h
parts_is (fin t m e) s w h =
    ap (λ (z : ℕ). signed t z) (ap (λ (z : ℕ). z / down e) h.1 ∙ mul-div_cancel w (down_pos e))
    ∙ ap (λ (z : Bool). signed z w) h.0

-- the sign and the number of parts of a finite f32
pub record Whole (x : Float) : Type 0 where
  pub sign : Bool
  pub size : ℕ
  pub value : HasValue x sign size ONE

low_enough : (k : ℕ) → 2 ^ suc k ≤ ONE → suc k ≤ 149
low_enough k h = le_of_suc-le-suc (lt_of_not-le (λ (g : 149 < suc k). not-le_of_lt (pow-lt g) h))

pub parts_whole : (x : Float) → T (is_finite x) → T (fits binary32 x) → Whole x
unfolding fits
parts_whole nan n t = absurd n
parts_whole (inf s) n t = absurd n
parts_whole (fin s zero e) n t = record { sign = s; size = 0; value = (refl, ap (λ (z : ℕ). z * ONE) (zero-mul (up e)) ∙ sym (zero-mul (down e))) }
parts_whole (fin s (suc m) (pos k)) n t = record { sign = s; size = suc m * 2 ^ k * ONE; value = (refl, sym (mul-one (suc m * 2 ^ k * ONE))) }
parts_whole (fin s (suc m) (negsuc k)) n t =
    let a : Bool = eqb (suc m % 2) 1 && ltb (suc m) (2 ^ 24) in
    let b : Bool = leb (2 ^ suc k) ONE in
    let c : Bool = ltb (suc m * 1) (2 ^ 128 * 2 ^ suc k) in
    let h : suc k ≤ 149 = low_enough k (leb→le (2 ^ suc k) ONE (and_r a b (and_l (a && b) c t))) in
    record {
      sign = s;
      size = suc m * 2 ^ (149 - suc k);
      value = (
        refl,
        ap (λ (z : ℕ). z * ONE) (mul-one (suc m))
            ∙ ap (λ (z : ℕ). suc m * z) (ap (λ (z : ℕ). 2 ^ z) (sym (back 149 (suc k) h)) ∙ pow-add 2 (149 - suc k) (suc k))
            ∙ sym (mul_assoc (suc m) (2 ^ (149 - suc k)) (2 ^ suc k)),
      );
    }

-- what `parts` counts, at the smallest f32, at 1 and at -0.5
smallest : parts (of_bits binary32 1) ≡ pos 1
unfolding parts of_bits
smallest = refl

one : parts (of_bits binary32 0x3F800000) ≡ pos ONE
unfolding parts of_bits
one = refl

minus_half : parts (of_bits binary32 0xBF000000) ≡ neg_ℤ (pos (2 ^ 148))
unfolding parts of_bits
minus_half = refl
