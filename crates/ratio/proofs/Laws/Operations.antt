-- A quotient, a sum and a product of two f32 that are not negative, by the fractions that they are: each is the exact result, rounded
-- once. `HasValue x false a c` says that x is finite, has no minus sign and is a / c. `counts_divided`: the quotient of two counts;
-- `counts_factored`: the same where the first was multiplied by a small factor before, as plugins.rs does.
-- Assumes nothing.
use Prim.Native.Nat.{ℕ, ◌+◌, ◌*◌, ◌^◌, ◌≤◌, ◌<◌}
use mathlib.Core.Path.{◌≡◌, refl, sym, ap, ◌∙◌, subst}
use mathlib.Core.Bool.{Bool, true, false, cond, true≢false}
use native.Mathlib.Nat.{mul-one, mul-pos}
use native.Mathlib.Omega.{arith}
use lib.Dec.{T, eqb, eqb→eq, lit<}
use lib.IntN.{pos}
use lib.Ieee.{Float, nan, inf, fin, Format, binary32, up, down, round, add, mul, div, of_int}
use lib.Ieee.Back.{round_whole}
use lib.Ieee.Exact.{HasValue}
use lib.Ieee.Fits.{up_pos, down_pos}
use lib.Ieee.Positive.{first_pos}
use lib.Ieee.Scale.{round_same}

-- a divisor that is not 0 leaves the rounded quotient
divided : (n : ℕ) (x y : Float) → 0 < n → cond (eqb n 0) x y ≡ y
divided n x y N = go (eqb n 0) (eqb→eq n 0)
  where
    no : n ≡ 0 → ⊥
    no e = omega arith

    go : (t : Bool) → (T t → n ≡ 0) → cond t x y ≡ y
    go true h = absurd (no (h tt))
    go false h = refl

module _ (f : Format) (a b c : ℕ) (C : 0 < c) where
  pub add_at : (x y : Float) → HasValue x false a c → HasValue y false b c → add f x y ≡ round f false (a + b) c
  unfolding add
  add_at nan y p q = absurd p
  add_at (inf s) y p q = absurd p
  add_at (fin true m e) y p q = absurd (true≢false p.0)
  add_at (fin false m e) nan p q = absurd q
  add_at (fin false m e) (inf t) p q = absurd q
  add_at (fin false m e) (fin true n g) p q = absurd (true≢false q.0)
  add_at (fin false m e) (fin false n g) p q =
      let X = m * up e in
      let Y = n * up g in
      round_same f false (X * down g + Y * down e) (down e * down g) (a + b) c (mul-pos (down_pos e) (down_pos g)) C
      (cross X (down g) Y (down e) p.1 q.1)
    where
      cross : (X G Y E : ℕ) → X * c ≡ a * E → Y * c ≡ b * G → (X * G + Y * E) * c ≡ (a + b) * (E * G)
      cross X G Y E p q = omega (arith, ap (λ (z : ℕ). z * G) p, ap (λ (z : ℕ). z * E) q)

module _ (f : Format) (a c b d : ℕ) (C : 0 < c) (D : 0 < d) where
  pub div_at : (x y : Float) → 0 < b → HasValue x false a c → HasValue y false b d → div f x y ≡ round f false (a * d) (b * c)
  unfolding div
  div_at nan y B p q = absurd p
  div_at (inf s) y B p q = absurd p
  div_at (fin true m e) y B p q = absurd (true≢false p.0)
  div_at (fin false m e) nan B p q = absurd q
  div_at (fin false m e) (inf t) B p q = absurd q
  div_at (fin false m e) (fin true n g) B p q = absurd (true≢false q.0)
  div_at (fin false m e) (fin false n g) B p q =
      let N : 0 < n = first_pos n (up g) (first_pos (n * up g) d (subst (λ (z : ℕ). 0 < z) (sym q.1) (mul-pos B (down_pos g)))) in
      let X = m * up e in
      let Y = n * up g in
      divided n (cond (eqb m 0) nan (inf false)) (round f false (X * down g) (Y * down e)) N
      ∙ round_same f false (X * down g) (Y * down e) (a * d) (b * c) (mul-pos (mul-pos N (up_pos g)) (down_pos e)) (mul-pos B C)
      (cross X (down g) Y (down e) p.1 q.1)
    where
      cross : (X G Y E : ℕ) → X * c ≡ a * E → Y * d ≡ b * G → X * G * (b * c) ≡ a * d * (Y * E)
      cross X G Y E p q = omega (arith, ap (λ (z : ℕ). z * (G * b)) p, ap (λ (z : ℕ). z * (a * E)) q)

  pub mul_at : (x y : Float) → HasValue x false a c → HasValue y false b d → mul f x y ≡ round f false (a * b) (c * d)
  unfolding mul
  mul_at nan y p q = absurd p
  mul_at (inf s) y p q = absurd p
  mul_at (fin true m e) y p q = absurd (true≢false p.0)
  mul_at (fin false m e) nan p q = absurd q
  mul_at (fin false m e) (inf t) p q = absurd q
  mul_at (fin false m e) (fin true n g) p q = absurd (true≢false q.0)
  mul_at (fin false m e) (fin false n g) p q =
      let X = m * up e in
      let Y = n * up g in
      round_same f false (X * Y) (down e * down g) (a * b) (c * d) (mul-pos (down_pos e) (down_pos g)) (mul-pos C D)
      (cross X (down g) Y (down e) p.1 q.1)
    where
      cross : (X G Y E : ℕ) → X * c ≡ a * E → Y * d ≡ b * G → X * Y * (c * d) ≡ a * b * (E * G)
      cross X G Y E p q = omega (arith, ap (λ (z : ℕ). z * (Y * d)) p, ap (λ (z : ℕ). z * (a * E)) q)

-- a count that an f32 holds
abbrev count : ℕ → Float
count n = of_int binary32 (pos n)

count_value : (n : ℕ) → n ≤ 2 ^ 24 → HasValue (count n) false n 1
unfolding of_int
count_value n h = round_whole binary32 false n h

at_one : (x : Float) (a n : ℕ) → 0 < n → n ≤ 2 ^ 24 → HasValue x false a 1 → div binary32 x (count n) ≡ round binary32 false a n
at_one x a n N h v =
    div_at binary32 a 1 n 1 (lit< tt) (lit< tt) x (count n) N v (count_value n h)
    ∙ ap (λ (z : ℕ). round binary32 false z (n * 1)) (mul-one a) ∙ ap (λ (z : ℕ). round binary32 false a z) (mul-one n)

pub counts_divided : (a n : ℕ) → a ≤ 2 ^ 24 → 0 < n → n ≤ 2 ^ 24 → div binary32 (count a) (count n) ≡ round binary32 false a n
counts_divided a n h N k = at_one (count a) a n N k (count_value a h)

pub counts_factored : (a k n : ℕ) → a ≤ 2 ^ 24 → k ≤ 2 ^ 24 → a * k ≤ 2 ^ 24 → 0 < n → n ≤ 2 ^ 24
    → div binary32 (mul binary32 (count a) (count k)) (count n) ≡ round binary32 false (a * k) n
counts_factored a k n A K h N l =
    at_one (mul binary32 (count a) (count k)) (a * k) n N l
    (subst (λ (z : Float). HasValue z false (a * k) 1)
    (sym (mul_at binary32 a 1 k 1 (lit< tt) (lit< tt) (count a) (count k) (count_value a A) (count_value k K)))
    (round_whole binary32 false (a * k) h))
