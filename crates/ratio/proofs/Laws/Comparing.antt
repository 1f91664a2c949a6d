-- `le` and `lt` of two f32 that have no minus sign, by the fractions that they are: each is the test on the fractions, multiplied out.
-- Assumes nothing.
use Prim.Native.Nat.{ℕ, ◌+◌, ◌*◌, ◌≤◌, ◌<◌}
use mathlib.Core.Path.{◌≡◌, refl, sym, ap, ◌∙◌}
use mathlib.Core.Bool.{Bool, true, false, not, ◌&&◌, ◌||◌, true≢false}
use native.Mathlib.Nat.{le_of_lt, le_antisymm, add_comm}
use native.Mathlib.Omega.{arith}
use lib.Dec.{leb, ltb, eqb}
use borrow.Author.Tests.{leb-true, eqb-true, eqb-false, lt-ltb, le-ltb, le-leb, lt-leb, eq-eqb, ne_eqb}
use lib.Ieee.{Float, nan, inf, fin, up, down, below, level, le, lt, eq}
use lib.Ieee.Fits.{down_pos}
use lib.Ieee.Exact.{HasValue}
use lib.Ieee.Order.{transfer}
use Rattle.base.proofs.Laws.Tests.{by_bool, split}
use Rattle.ratio.specs.Finite.{is_finite}

-- a test that holds exactly where m <= n
pub test_is : (b : Bool) (m n : ℕ) → (m ≤ n → b ≡ true) → (b ≡ true → m ≤ n) → b ≡ leb m n
test_is b m n h k =
    by_bool b (λ e. e ∙ sym (le-leb m n (k e)))
    (λ e. split n m (λ l. e ∙ sym (lt-leb m n l)) (λ l. absurd (true≢false (sym (h l) ∙ e))))

pub ltb_not : (a b : ℕ) → ltb a b ≡ not (leb b a)
ltb_not a b = split a b (λ h. lt-ltb a b h ∙ ap not (sym (lt-leb b a h))) (λ h. le-ltb a b h ∙ ap not (sym (le-leb b a h)))

-- below or equal
le_test : (a b : ℕ) → (ltb a b || (eqb a b && true)) ≡ leb a b
le_test a b =
    split a b
    (λ h. ap (λ (z : Bool). z || (eqb a b && true)) (lt-ltb a b h) ∙ sym (le-leb a b (le_of_lt h)))
    (λ h. ap (λ (z : Bool). z || (eqb a b && true)) (le-ltb a b h) ∙ equal h)
  where
    equal : b ≤ a → (eqb a b && true) ≡ leb a b
    equal h =
        split b a
        (λ l. ap (λ (z : Bool). z && true) (ne_eqb a b (λ (e : a ≡ b). apart l e)) ∙ sym (lt-leb a b l))
        (λ l. ap (λ (z : Bool). z && true) (eq-eqb a b (le_antisymm l h)) ∙ sym (le-leb a b l))
      where
        apart : b < a → a ≡ b → ⊥
        apart l e = omega arith

module _ (a c b d : ℕ) (C : 0 < c) (D : 0 < d) where
  pub le_is : (x y : Float) → HasValue x false a c → HasValue y false b d → le x y ≡ leb (a * d) (b * c)
  unfolding le
  le_is nan y p q = absurd p
  le_is (inf s) y p q = absurd p
  le_is (fin true m e) y p q = absurd (true≢false p.0)
  le_is (fin false m e) nan p q = absurd q
  le_is (fin false m e) (inf t) p q = absurd q
  le_is (fin false m e) (fin true n g) p q = absurd (true≢false q.0)
  le_is (fin false m e) (fin false n g) p q =
      let X = m * up e in
      let Y = n * up g in
      le_test (X * down g) (Y * down e)
      ∙ test_is (leb (X * down g) (Y * down e)) (a * d) (b * c)
      (λ h. le-leb (X * down g) (Y * down e) (transfer X Y (down e) (down g) a b c d C D p.1 q.1 h))
      (λ t. transfer a b c d X Y (down e) (down g) (down_pos e) (down_pos g) (sym p.1) (sym q.1) (leb-true (X * down g) (Y * down e) t))

-- ---- of two finite f32 of either sign, one is below the other exactly where the other is not at most it
eqb_flip : (a b : ℕ) → eqb a b ≡ eqb b a
eqb_flip a b = by_bool (eqb b a) (λ e. eq-eqb a b (sym (eqb-true b a e)) ∙ sym e) (λ e. ne_eqb a b (λ (h : a ≡ b). eqb-false b a e (sym h)) ∙ sym e)

-- the two are 0 and of unlike sign
both_zero : (a b : ℕ) → (eqb a b && eqb a 0) ≡ not (ltb 0 (a + b))
both_zero a b =
    split 0 (a + b)
    (λ h. by_bool (eqb a b)
    (λ e. let n : a ≡ 0 → ⊥ = λ z. apart h (eqb-true a b e) z in rw (e, ne_eqb a 0 n, lt-ltb 0 (a + b) h))
    (λ e. rw (e, lt-ltb 0 (a + b) h)))
    (λ h. rw (eq-eqb a b (omega arith), eq-eqb a 0 (omega arith), le-ltb 0 (a + b) h))
  where
    apart : 0 < a + b → a ≡ b → a ≡ 0 → ⊥
    apart h e z = omega arith

or_not : (t : Bool) → false ≡ not (t || not t)
or_not true = refl
or_not false = refl

not_not : (t : Bool) → t ≡ not (not t)
not_not true = refl
not_not false = refl

below_not : (s : Bool) (a : ℕ) (t : Bool) (b : ℕ) → below s a t b ≡ not (below t b s a || level t b s a)
below_not false a false b = ltb_not a b ∙ ap not (sym (le_test b a))
below_not false a true b = or_not (ltb 0 (b + a)) ∙ ap (λ (z : Bool). not (ltb 0 (b + a) || z)) (sym (both_zero b a))
below_not true a false b = not_not (ltb 0 (a + b)) ∙ ap (λ (z : ℕ). not (not (ltb 0 z))) (add_comm a b) ∙ ap not (sym (both_zero b a))
below_not true a true b = ltb_not b a ∙ ap not (sym (le_test a b) ∙ ap (λ (z : Bool). ltb a b || (z && true)) (eqb_flip a b))

pub lt_not_le : (x y : Float) → is_finite x ≡ true → is_finite y ≡ true → lt x y ≡ not (le y x)
unfolding lt le eq
lt_not_le nan y p q = absurd (true≢false (sym p))
lt_not_le (inf s) y p q = absurd (true≢false (sym p))
lt_not_le (fin s m e) nan p q = absurd (true≢false (sym q))
lt_not_le (fin s m e) (inf t) p q = absurd (true≢false (sym q))
lt_not_le (fin s m e) (fin t n d) p q = below_not s (m * up e * down d) t (n * up d * down e)
