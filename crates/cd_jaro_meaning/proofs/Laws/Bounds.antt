-- The measure is +0, or at least 43/256 and at most 1, in f64 too: the first two terms add to 1/256 or more, the third is 1/2 or more, and
-- 129/256 is three times 43/256. Every bound is a fraction that f64 holds, so no rounding passes it. 1074 is binary64's `low`; the steps
-- are stated over a variable L for 2 ^ 1074.
-- Assumes nothing.
use Prim.Native.Nat.{ℕ, ◌+◌, ◌-◌, ◌*◌, ◌^◌, ◌≤◌, ◌<◌}
use mathlib.Core.Path.{◌≡◌, refl, ap, ◌∙◌}
use mathlib.Core.Logic.{◌⊎◌, inl, inr, ⊎_elim}
use mathlib.Core.Bool.{false}
use mathlib.Core.List.{List}
use native.Mathlib.Nat.{mul-pos, mul-one, eq-zero-or-pos}
use native.Mathlib.Omega.{arith}
use lib.ListN.{length}
use lib.Dec.{lit<, lit≤}
use lib.IntN.{pos}
use lib.Pow.{pow_pos}
use lib.Ieee.{Float, binary64, round, add, div, of_int}
use lib.Ieee.Back.{round_whole}
use lib.Ieee.Exact.{HasValue}
use borrow.Author.Tests.{eq-eqb, ne_eqb}
use Rattle.base.specs.Inner.Limits.{MOST_LETTERS}
use Rattle.base.specs.Limits.{LANGUAGE_LETTERS}
use Rattle.ratio.proofs.Laws.Operations.{add_at, div_at}
use Rattle.f32_nearest.specs.Inner.Nearest.{NOUGHT}
use Rattle.cd_jaro_meaning.specs.Jaro.{matches, transpositions, over, measure, jaro}
use Rattle.cd_jaro_meaning.proofs.Laws.Jaro.{matches_layer, matches_language, transpositions_half}
use Rattle.cd_jaro_meaning.proofs.Laws.Held.{Exact, Held, exact, held}

-- numerators over powers of two, up to 256
over_1 : (a : ℕ) → 0 < a → a < 2 ^ 53 → Exact binary64 a 1
over_1 a h k = exact binary64 a 0 1074 h k refl

-- a power of two that is no less than MOST-LETTERS: a fraction with it f64 holds
abbrev TERMS : ℕ
TERMS = 16384

over_256 : (a : ℕ) → 0 < a → a < 2 ^ 53 → Exact binary64 a 256
over_256 a h k = exact binary64 a 8 1066 h k refl

first_least : (L x y : ℕ) → 1 * L ≤ y * 256 → 1 * L ≤ (x + y) * 256
first_least L x y h = omega arith

first_most : (L x y : ℕ) → x * 1 ≤ 1 * L → y * 1 ≤ 1 * L → (x + y) * 1 ≤ 2 * L
first_most L x y h k = omega arith

second_least : (L x y : ℕ) → 1 * L ≤ x * 256 → 128 * L ≤ y * 256 → 129 * L ≤ (x + y) * 256
second_least L x y h k = omega arith

second_most : (L x y : ℕ) → x * 1 ≤ 2 * L → y * 1 ≤ 1 * L → (x + y) * 1 ≤ 3 * L
second_most L x y h k = omega arith

third_least : (L x : ℕ) → 129 * L ≤ x * 256 → 43 * (3 * L) ≤ x * 1 * 256
third_least L x h = omega arith

third_most : (L x : ℕ) → x * 1 ≤ 3 * L → x * 1 * 1 ≤ 1 * (3 * L)
third_most L x h = omega arith

-- a count, and a ratio of two counts: the fraction, rounded once
count : (n : ℕ) → n ≤ 2 ^ 53 → HasValue (of_int binary64 (pos n)) false n 1
unfolding of_int
count n h = round_whole binary64 false n h

over_is : (p q : ℕ) → p ≤ MOST_LETTERS → 0 < q → q ≤ MOST_LETTERS → over p q ≡ round binary64 false p q
over_is p q h Q k =
    div_at binary64 p 1 q 1 (lit< tt) (lit< tt) (of_int binary64 (pos p)) (of_int binary64 (pos q)) Q (count p (omega arith)) (count q (omega arith))
    ∙ ap (λ (z : ℕ). round binary64 false z (q * 1)) (mul-one p) ∙ ap (λ (z : ℕ). round binary64 false p z) (mul-one q)

sum_at : {x y : Float} {a c b d a' c' b' d' : ℕ} (g : Held binary64 x a c b d) (k : Held binary64 y a' c' b' d')
    → add binary64 x y ≡ round binary64 false (g.parts + k.parts) (2 ^ 1074)
sum_at {x} {y} g k = add_at binary64 g.parts k.parts (2 ^ 1074) (pow_pos 1074) x y g.value k.value

module _ {x y z : Float} (X : Held binary64 x 1 TERMS 1 1) (Y : Held binary64 y 1 256 1 1) (Z : Held binary64 z 128 256 1 1) where
  one : Held binary64 (add binary64 x y) 1 256 2 1
  one =
      rw (sum_at X Y)
      (held binary64 (X.parts + Y.parts) (2 ^ 1074) (pow_pos 1074) (over_256 1 (lit< tt) (lit< tt)) (over_1 2 (lit< tt) (lit< tt))
      (first_least (2 ^ 1074) X.parts Y.parts Y.least) (first_most (2 ^ 1074) X.parts Y.parts X.most Y.most))

  two : Held binary64 (add binary64 (add binary64 x y) z) 129 256 3 1
  two =
      rw (sum_at one Z)
      (held binary64 (one.parts + Z.parts) (2 ^ 1074) (pow_pos 1074) (over_256 129 (lit< tt) (lit< tt)) (over_1 3 (lit< tt) (lit< tt))
      (second_least (2 ^ 1074) one.parts Z.parts one.least Z.least) (second_most (2 ^ 1074) one.parts Z.parts one.most Z.most))

  third : Held binary64 (div binary64 (add binary64 (add binary64 x y) z) (of_int binary64 (pos 3))) 43 256 1 1
  third =
      let e = div_at binary64 two.parts (2 ^ 1074) 3 1 (pow_pos 1074) (lit< tt) (add binary64 (add binary64 x y) z) (of_int binary64 (pos 3)) (lit< tt)
      two.value (count 3 (lit≤ tt)) in
      rw e
      (held binary64 (two.parts * 1) (3 * 2 ^ 1074) (mul-pos {m = 3} (lit< tt) (pow_pos 1074)) (over_256 43 (lit< tt) (lit< tt)) (over_1 1 (lit< tt) (lit< tt))
      (third_least (2 ^ 1074) two.parts two.least) (third_most (2 ^ 1074) two.parts two.most))

module _ (m t a b : ℕ) (M : 0 < m) (A : m ≤ a) (B : m ≤ b) (H : t * 2 ≤ m) (L : a ≤ MOST_LETTERS) (K : b ≤ LANGUAGE_LETTERS) where
  first_term : Held binary64 (over m a) 1 TERMS 1 1
  first_term =
      rw (over_is m a (omega arith) (omega arith) L)
      (held binary64 m a (omega arith) (exact binary64 1 14 1060 (lit< tt) (lit< tt) refl) (over_1 1 (lit< tt) (lit< tt)) (omega arith) (omega arith))

  second_term : Held binary64 (over m b) 1 256 1 1
  second_term =
      rw (over_is m b (omega arith) (omega arith) (omega arith))
      (held binary64 m b (omega arith) (over_256 1 (lit< tt) (lit< tt)) (over_1 1 (lit< tt) (lit< tt)) (omega arith) (omega arith))

  third_term : Held binary64 (over (m - t) m) 128 256 1 1
  third_term =
      rw (over_is (m - t) m (omega arith) M (omega arith))
      (held binary64 (m - t) m M (over_256 128 (lit< tt) (lit< tt)) (over_1 1 (lit< tt) (lit< tt)) (omega arith) (omega arith))

  measured : Held binary64 (measure m t a b) 43 256 1 1
  unfolding measure
  measured =
      let n : m ≡ 0 → ⊥ = λ e. omega arith in
      rw (ne_eqb m 0 n) (third first_term second_term third_term)

nought : (m t a b : ℕ) → m ≡ 0 → measure m t a b ≡ NOUGHT
unfolding measure
nought m t a b e = rw (eq-eqb m 0 e)

pub jaro_bounds : (layer language : List ℕ) → length layer ≤ MOST_LETTERS → length language ≤ LANGUAGE_LETTERS
    → (jaro layer language ≡ NOUGHT) ⊎ Held binary64 (jaro layer language) 43 256 1 1
unfolding jaro
jaro_bounds layer language h k =
    ⊎_elim (λ e. inl (nought (matches layer language) (transpositions layer language) (length layer) (length language) e))
    (λ p. inr (measured (matches layer language) (transpositions layer language) (length layer) (length language) p (matches_layer layer language)
    (matches_language layer language) (transpositions_half layer language) h k))
    (eq-zero-or-pos (matches layer language))
