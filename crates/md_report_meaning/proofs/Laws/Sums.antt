-- The counts of a tally add up to the lines that count (`tally_adds_up`): each such line stands at one place and no other.
-- Assumes nothing.
use Prim.Native.Nat.{ℕ, zero, suc, ◌+◌, ◌*◌, ◌<◌, ◌≤◌}
use mathlib.Core.Path.{◌≡◌, refl, sym, ap, ◌∙◌}
use mathlib.Core.Bool.{Bool, true, false, not, ◌&&◌}
use native.Mathlib.Nat.{not-suc-le-zero}
use native.Mathlib.Numerals.{add-one}
use native.Mathlib.Omega.{arith}
use lib.Dec.{eqb}
use borrow.Author.Tests.{eqb-true, eq-eqb, ne_eqb}
use Rattle.base.specs.Numbers.{bump}
use Rattle.base.proofs.Laws.Tests.{split, by_bool}
use Rattle.md_report_meaning.specs.Bins.{how_many, sum_to}

pub sum_same : (f g : ℕ → ℕ) (n : ℕ) → ((k : ℕ) → k < n → f k ≡ g k) → sum_to f n ≡ sum_to g n
unfolding sum_to
sum_same f g zero e = refl
sum_same f g (suc n) e = rw (sum_same f g n (λ k h. e k (omega arith)), e n (omega arith))

pub sum_start : (f : ℕ → ℕ) → 0 ≡ sum_to f 0
unfolding sum_to
sum_start f = refl

pub sum_more : (f : ℕ → ℕ) (sum n : ℕ) → sum ≡ sum_to f n → sum + f n ≡ sum_to f (n + 1)
unfolding sum_to
sum_more f sum n e = rw (e, add-one n)

pub sum_end : (f : ℕ → ℕ) (sum k n : ℕ) → sum ≡ sum_to f k → k ≤ n → n ≤ k → sum ≡ sum_to f n
sum_end f sum k n e h l =
    let same : k ≡ n = omega arith in
    e ∙ ap (sum_to f) same

sum_zeros : (n : ℕ) → sum_to (λ k. 0) n ≡ 0
unfolding sum_to
sum_zeros zero = refl
sum_zeros (suc n) = omega (arith, sum_zeros n)

sum_both : (f g : ℕ → ℕ) (n : ℕ) → sum_to (λ k. f k + g k) n ≡ sum_to f n + sum_to g n
unfolding sum_to
sum_both f g zero = refl
sum_both f g (suc n) = omega (arith, sum_both f g n)

-- the first one by itself
pub sum_first : (f : ℕ → ℕ) (n : ℕ) → sum_to f (suc n) ≡ f 0 + sum_to (λ k. f (k + 1)) n
unfolding sum_to
sum_first f zero = omega arith
sum_first f (suc n) = sum_step (sum_first f n) (one n)
  where
    one : (n : ℕ) → f (suc n) ≡ f (n + 1)
    one n = ap f (sym (add-one n))

    sum_step : sum_to f (suc n) ≡ f 0 + sum_to (λ k. f (k + 1)) n → f (suc n) ≡ f (n + 1)
        → sum_to f (suc n) + f (suc n) ≡ f 0 + (sum_to (λ k. f (k + 1)) n + f (n + 1))
    sum_step a b = omega (arith, a, b)

-- a sum of numbers that are not above m
pub sum_few : (f : ℕ → ℕ) (m n : ℕ) → ((k : ℕ) → f k ≤ m) → sum_to f n ≤ m * n
unfolding sum_to
sum_few f m zero h = omega arith
sum_few f m (suc n) h = omega (arith, sum_few f m n h, h n)

-- one place among m has it, and no other
one_place : (b m : ℕ) (t : Bool) → (m ≤ b → sum_to (λ k. bump (t && eqb b k)) m ≡ 0) × (b < m → sum_to (λ k. bump (t && eqb b k)) m ≡ bump t)
unfolding sum_to
one_place b zero t = (λ h. refl, λ h. absurd (not-suc-le-zero h))
one_place b (suc m) t =
    let before = one_place b m t in (
      λ h. let ne : eqb b m ≡ false = ne_eqb b m (λ (z : b ≡ m). absurd (above h z)) in
          rw (ne, before.0 (omega arith)) (off t),
      λ h. split b m
          (λ l. let ne : eqb b m ≡ false = ne_eqb b m (λ (z : b ≡ m). absurd (below l z)) in
          rw (ne, before.1 l) (on t))
          (λ l. let e : b ≡ m = omega arith in
          rw (eq-eqb b m e, before.0 l) (last t)),
    )
  where
    above : suc m ≤ b → b ≡ m → ⊥
    above h z = omega arith

    below : b < m → b ≡ m → ⊥
    below h z = omega arith

    off : (t : Bool) → 0 + bump (t && false) ≡ 0
    off true = refl
    off false = refl

    on : (t : Bool) → bump t + bump (t && false) ≡ bump t
    on true = refl
    on false = refl

    last : (t : Bool) → 0 + bump (t && true) ≡ bump t
    last true = refl
    last false = refl

pub tally_adds_up : (p : ℕ → Bool) (g : ℕ → ℕ) (m : ℕ) → ((i : ℕ) → g i < m) → (n : ℕ) → sum_to (λ k. how_many (λ i. p i && eqb (g i) k) n) m ≡ how_many p n
unfolding how_many
tally_adds_up p g m small zero = sum_zeros m
tally_adds_up p g m small (suc n) =
    sum_both (λ k. how_many (λ i. p i && eqb (g i) k) n) (λ k. bump (p n && eqb (g n) k)) m
    ∙ rw (tally_adds_up p g m small n, (one_place (g n) m (p n)).1 (small n))

-- a test holds or not
pub both_ways : (f : ℕ → Bool) (n : ℕ) → how_many f n + how_many (λ i. not (f i)) n ≡ n
unfolding how_many
both_ways f zero = refl
both_ways f (suc n) = omega (arith, both_ways f n, either (f n))
  where
    either : (b : Bool) → bump b + bump (not b) ≡ 1
    either true = refl
    either false = refl
