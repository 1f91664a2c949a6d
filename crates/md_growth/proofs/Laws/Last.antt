-- The last index at which a test holds: it is at most n (`last_within`); one index more (`last_hit`, `last_miss`); where it is 0 the test holds nowhere
-- (`last_none`), and else it holds there and nowhere behind (`last_found`, `last_behind`).
-- Assumes nothing.
use Prim.Native.Nat.{ℕ, zero, suc, ◌+◌, ◌≤◌, ◌<◌}
use mathlib.Core.Path.{◌≡◌, ap, ◌∙◌}
use mathlib.Core.Bool.{Bool, true, false}
use native.Mathlib.Nat.{not-suc-le-zero}
use native.Mathlib.Numerals.{add-one}
use native.Mathlib.Omega.{arith}
use Rattle.base.proofs.Laws.Tests.{by_test, by_bool, split}
use Rattle.md_growth.specs.Text.{last_of}

module _ (f : ℕ → Bool) where
  pub last_hit : (n : ℕ) → f n ≡ true → last_of f (n + 1) ≡ n + 1
  unfolding last_of
  last_hit n e = ap (last_of f) (add-one n) ∙ rw e

  pub last_miss : (n : ℕ) → f n ≡ false → last_of f (n + 1) ≡ last_of f n
  unfolding last_of
  last_miss n e = ap (last_of f) (add-one n) ∙ rw e

  pub last_within : (n : ℕ) → last_of f n ≤ n
  unfolding last_of
  last_within zero = omega arith
  last_within (suc n) =
      by_test (λ (m : ℕ). m ≤ suc n) (f n) (n + 1) (last_of f n) (λ e. omega arith) (λ e. let h = last_within n in omega arith)

  -- behind it the test fails
  pub last_behind : (n i : ℕ) → i < n → last_of f n ≤ i → f i ≡ false
  unfolding last_of
  last_behind zero i h l = absurd (not-suc-le-zero h)
  last_behind (suc n) i h l =
      by_bool (f n)
      (λ e. let m : n + 1 ≤ i = rw e at l in absurd (no h m))
      (λ e. let m : last_of f n ≤ i = rw e at l in
      split i n (λ k. last_behind n i k m) (λ k. let z : n ≡ i = omega arith in rw z at e))
    where
      no : i < suc n → n + 1 ≤ i → ⊥
      no a b = omega arith

  -- where it is not 0 the test holds there
  pub last_found : (n i : ℕ) → last_of f n ≡ i + 1 → f i ≡ true
  unfolding last_of
  last_found zero i e = absurd (no e)
    where
      no : 0 ≡ i + 1 → ⊥
      no z = omega arith
  last_found (suc n) i e =
      by_bool (f n)
      (λ t. let m : n + 1 ≡ i + 1 = rw t at e in let z : n ≡ i = omega arith in rw z at t)
      (λ t. last_found n i (rw t at e))

  -- where it is 0 the test holds nowhere
  pub last_none : (n i : ℕ) → last_of f n ≡ 0 → i < n → f i ≡ false
  last_none n i e h = last_behind n i h (omega arith)
