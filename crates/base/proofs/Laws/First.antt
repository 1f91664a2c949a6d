-- Laws of `first`: `first_start`, `_hit`, `_miss`, `_end` for a walk from the front, `first_is` and `first_none` for any other search,
-- `first_before`, `first_found` and `first_within` for readers. Laws of `each`: one index more (`each_more`), what holds at an index (`each_at`) and the
-- other way round (`each_all`), and that the first index at which the test fails is then past all (`first_each`, `each_first`).
-- Assumes nothing.
use Prim.Native.Nat.{ℕ, zero, suc, ◌+◌, ◌-◌, ◌≤◌, ◌<◌}
use mathlib.Core.Path.{◌≡◌, refl, sym, ◌∙◌}
use mathlib.Core.Bool.{Bool, true, false, cond, not, ◌&&◌}
use native.Mathlib.Nat.{sub-zero, not-suc-le-zero}
use native.Mathlib.Numerals.{add-one}
use native.Mathlib.Omega.{arith}
use borrow.Author.Tests.{not-false}
use Rattle.base.proofs.Laws.Tests.{by_test, by_bool, split, and_l, and_r, and_yes}
use Rattle.base.specs.First.{seek, first, each}
use Rattle.base.specs.Inner.First.{first_from}

module _ (f : ℕ → Bool) (n : ℕ) where
  -- for a walk from the front
  pub first_start : first_from f n 0 ≡ first f n
  unfolding first_from first
  first_start = rw sub-zero

  turn : (i : ℕ) → i < n → first_from f n i ≡ cond (f i) i (first_from f n (i + 1))
  unfolding first_from seek
  turn i h =
      let e : n - i ≡ suc (n - (i + 1)) = omega arith in
      rw e

  pub first_hit : (i : ℕ) → i < n → f i ≡ true → first_from f n i ≡ i
  first_hit i h e = turn i h ∙ rw e

  pub first_miss : (i : ℕ) → i < n → f i ≡ false → first_from f n i ≡ first_from f n (i + 1)
  first_miss i h e = turn i h ∙ rw e

  pub first_end : (i : ℕ) → i ≡ n → first_from f n i ≡ i
  unfolding first_from seek
  first_end i h =
      let e : n - i ≡ 0 = omega arith in
      rw e

  -- for any other search: what the first is
  reach : (k i : ℕ) → i + k ≤ n → ((j : ℕ) → i ≤ j → j < i + k → f j ≡ false) → first_from f n i ≡ first_from f n (i + k)
  reach zero i h none = let e : i + 0 ≡ i = omega arith in rw e
  reach (suc k) i h none =
      let e : i + 1 + k ≡ i + suc k = omega arith in
      first_miss i (omega arith) (none i (omega arith) (omega arith))
      ∙ reach k (i + 1) (omega arith) (λ j a b. none j (omega arith) (omega arith))
      ∙ rw e

  from_zero : (i : ℕ) → i ≤ n → ((j : ℕ) → j < i → f j ≡ false) → first f n ≡ first_from f n i
  from_zero i h none =
      let e : 0 + i ≡ i = omega arith in
      sym first_start ∙ reach i 0 (omega arith) (λ j a b. none j (omega arith)) ∙ rw e

  pub first_is : (i : ℕ) → i < n → f i ≡ true → ((j : ℕ) → j < i → f j ≡ false) → first f n ≡ i
  first_is i h e none = from_zero i (omega arith) none ∙ first_hit i h e

  pub first_none : ((j : ℕ) → j < n → f j ≡ false) → first f n ≡ n
  first_none none = from_zero n (omega arith) none ∙ first_end n refl

-- below the first the test fails, and at the first, where there is one, it holds
before : (f : ℕ → Bool) (k i j : ℕ) → i ≤ j → j < seek f k i → f j ≡ false
unfolding seek
before f zero i j h l = absurd (no h l)
  where
    no : i ≤ j → j < i → ⊥
    no a b = omega arith
before f (suc k) i j h l =
    by_bool (f i)
    (λ e. let l' : j < i = rw e at l in absurd (no h l'))
    (λ e. let l' : j < seek f k (i + 1) = rw e at l in
    split i j (λ m. before f k (i + 1) j (omega arith) l')
    (λ m. let z : i ≡ j = omega arith in rw (← z) e))
  where
    no : i ≤ j → j < i → ⊥
    no a b = omega arith

pub first_before : (f : ℕ → Bool) (n j : ℕ) → j < first f n → f j ≡ false
unfolding first
first_before f n j h = before f n 0 j (omega arith) h

-- it is at most n
seek_within : (f : ℕ → Bool) (k i : ℕ) → seek f k i ≤ i + k
unfolding seek
seek_within f zero i = omega arith
seek_within f (suc k) i =
    by_test (λ (m : ℕ). m ≤ i + suc k) (f i) i (seek f k (i + 1)) (λ e. omega arith) (λ e. let h = seek_within f k (i + 1) in omega arith)

pub first_within : (f : ℕ → Bool) (n : ℕ) → first f n ≤ n
unfolding first
first_within f n = let h = seek_within f n 0 in omega arith

found : (f : ℕ → Bool) (k i : ℕ) → seek f k i < i + k → f (seek f k i) ≡ true
unfolding seek
found f zero i l = absurd (no l)
  where
    no : i < i + 0 → ⊥
    no a = omega arith
found f (suc k) i l =
    by_bool (f i)
    (λ e. rw e e)
    (λ e. let l' : seek f k (i + 1) < i + suc k = rw e at l in
    let r : f (seek f k (i + 1)) ≡ true = found f k (i + 1) (omega arith) in rw e r)

-- where it is below n, the test holds there
pub first_found : (f : ℕ → Bool) (n : ℕ) → first f n < n → f (first f n) ≡ true
unfolding first
first_found f n h = found f n 0 (omega arith)

-- ---- a test that holds at every index
module _ (g : ℕ → Bool) where
  pub each_more : (k : ℕ) → (each g k && g k) ≡ each g (k + 1)
  unfolding each
  each_more k = rw (add-one k)

  pub each_at : (n : ℕ) → each g n ≡ true → (k : ℕ) → k < n → g k ≡ true
  unfolding each
  each_at zero e k h = absurd (not-suc-le-zero h)
  each_at (suc n) e k h =
      split k n
      (λ l. each_at n (and_l (each g n) (g n) e) k l)
      (λ l. let z : n ≡ k = omega arith in rw z at (and_r (each g n) (g n) e))

  pub each_all : (n : ℕ) → ((k : ℕ) → k < n → g k ≡ true) → each g n ≡ true
  unfolding each
  each_all zero h = refl
  each_all (suc n) h = and_yes (each_all n (λ k l. h k (omega arith))) (h n (omega arith))

  pub first_each : (n : ℕ) → n ≤ first (λ j. not (g j)) n → each g n ≡ true
  first_each n h = each_all n (λ k l. not-false _ (first_before (λ j. not (g j)) n k (omega arith)))

  pub each_first : (n : ℕ) → each g n ≡ true → first (λ j. not (g j)) n ≡ n
  each_first n e = first_none (λ j. not (g j)) n (λ k l. rw (each_at n e k l))
