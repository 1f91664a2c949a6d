-- Counts in an array: all zero before the first line (`tally_start`); a line that counts is one more at its place (`tally_in`), one that does not changes nothing
-- (`tally_out`); no count is above the lines (`tally_few`); each place has its count (`tally_at`).
-- Assumes nothing.
use Prim.Native.Nat.{ℕ, zero, suc, ◌+◌, ◌<◌, ◌≤◌}
use mathlib.Core.Path.{◌≡◌, refl, sym, ap, ◌∙◌}
use mathlib.Core.Bool.{Bool, true, false, ◌&&◌}
use mathlib.Core.List.{List, [], ◌∷◌}
use native.Mathlib.Nat.{add-zero, zero-add, add-suc, suc-add, not-suc-le-zero, le_of_suc-le-suc}
use native.Mathlib.Numerals.{add-one}
use native.Mathlib.Omega.{arith}
use lib.Dec.{eqb}
use lib.ListN.{length, get_or, set, replicate, length-set}
use lib.Seq.{ext_get_or, get_or-set_same, get_or-set_other}
use borrow.Author.Tests.{eqb-true, eqb-false}
use Rattle.base.specs.Numbers.{bump}
use Rattle.base.proofs.Laws.Tests.{split}
use Rattle.md_report_meaning.specs.Bins.{how_many}
use Rattle.md_report_meaning.specs.Inner.Counts.{from, tally}

-- ---- lists made by a function
pub length_from : (f : ℕ → ℕ) (k n : ℕ) → length (from f k n) ≡ n
unfolding from
length_from f k zero = refl
length_from f k (suc n) = ap suc (length_from f (suc k) n)

pub get_or_from : (f : ℕ → ℕ) (k n i d : ℕ) → i < n → get_or (from f k n) i d ≡ f (k + i)
unfolding from
get_or_from f k zero i d h = absurd (not-suc-le-zero h)
get_or_from f k (suc n) zero d h = ap f (sym (add-zero k))
get_or_from f k (suc n) (suc i) d h = get_or_from f (suc k) n i d (le_of_suc-le-suc h) ∙ ap f (suc-add k i ∙ sym (add-suc k i))

from_past : (f : ℕ → ℕ) (k n i : ℕ) → n ≤ i → get_or (from f k n) i 0 ≡ 0
unfolding from
from_past f k zero i h = refl
from_past f k (suc n) zero h = absurd (not-suc-le-zero h)
from_past f k (suc n) (suc i) h = from_past f (suc k) n i (le_of_suc-le-suc h)

from_zeros : (k n : ℕ) → replicate n 0 ≡ from (λ _. 0) k n
unfolding from
from_zeros k zero = refl
from_zeros k (suc n) = ap (λ (l : List ℕ). 0 ∷ l) (from_zeros (suc k) n)

-- ---- how many
one_more : (b : Bool) → bump b ≤ 1
one_more true = omega arith
one_more false = omega arith

pub how_many_few : (f : ℕ → Bool) (n : ℕ) → how_many f n ≤ n
unfolding how_many
how_many_few f zero = omega arith
how_many_few f (suc n) = omega (arith, how_many_few f n, one_more (f n))

pub how_many_more : (f : ℕ → Bool) (n : ℕ) → how_many f (n + 1) ≡ how_many f n + bump (f n)
unfolding how_many
how_many_more f n = rw (add-one n)

pub how_many_same : (f g : ℕ → Bool) (n : ℕ) → ((i : ℕ) → f i ≡ g i) → how_many f n ≡ how_many g n
unfolding how_many
how_many_same f g zero e = refl
how_many_same f g (suc n) e = rw (how_many_same f g n e, e n)

-- ---- the counts
module _ (p : ℕ → Bool) (g : ℕ → ℕ) (m : ℕ) where
  pub tally_length : (n : ℕ) → length (tally p g m n) ≡ m
  unfolding tally
  tally_length n = length_from _ 0 m

  pub tally_at : (n k : ℕ) → k < m → get_or (tally p g m n) k 0 ≡ how_many (λ i. p i && eqb (g i) k) n
  unfolding tally
  tally_at n k h =
      get_or_from (λ j. how_many (λ i. p i && eqb (g i) j) n) 0 m k 0 h ∙ ap (λ (j : ℕ). how_many (λ i. p i && eqb (g i) j) n) (zero-add k)

  pub tally_start : replicate m 0 ≡ tally p g m 0
  unfolding tally how_many
  tally_start = from_zeros 0 m

  tally_past : (n k : ℕ) → m ≤ k → get_or (tally p g m n) k 0 ≡ 0
  unfolding tally
  tally_past n k h = from_past _ 0 m k h

  pub tally_few : (n k : ℕ) → get_or (tally p g m n) k 0 ≤ n
  tally_few n k =
      split k m
      (λ h. rw (tally_at n k h) (how_many_few (λ i. p i && eqb (g i) k) n))
      (λ h. rw (tally_past n k h) (omega arith))

  -- a line that does not count
  pub tally_out : (n : ℕ) → p n ≡ false → tally p g m n ≡ tally p g m (n + 1)
  tally_out n e =
      ext_get_or 0 (tally p g m n) (tally p g m (n + 1)) (tally_length n ∙ sym (tally_length (n + 1)))
      (λ k h. let l : k < m = rw (tally_length n) at h in
      tally_at n k l ∙ none k ∙ sym (tally_at (n + 1) k l))
    where
      none : (k : ℕ) → how_many (λ i. p i && eqb (g i) k) n ≡ how_many (λ i. p i && eqb (g i) k) (n + 1)
      none k = sym (how_many_more (λ i. p i && eqb (g i) k) n ∙ rw e (add-zero _))

  -- a line that counts, at a place by itself
  at_place : (n k : ℕ) (t : Bool) → g n < m → eqb (g n) k ≡ t
      → get_or (set (tally p g m n) (g n) (get_or (tally p g m n) (g n) 0 + 1)) k 0 ≡ get_or (tally p g m n) k 0 + bump t
  at_place n k true h e =
      let same : g n ≡ k = eqb-true (g n) k e in
      rw (← same) (get_or-set_same (tally p g m n) (g n) (get_or (tally p g m n) (g n) 0 + 1) 0 (omega (arith, tally_length n)))
  at_place n k false h e =
      get_or-set_other (tally p g m n) (g n) k (get_or (tally p g m n) (g n) 0 + 1) 0 (λ (z : k ≡ g n). eqb-false (g n) k e (sym z))
      ∙ sym (add-zero (get_or (tally p g m n) k 0))

  pub tally_in : (n : ℕ) → p n ≡ true → g n < m → set (tally p g m n) (g n) (get_or (tally p g m n) (g n) 0 + 1) ≡ tally p g m (n + 1)
  tally_in n e b =
      ext_get_or 0 (set (tally p g m n) (g n) (get_or (tally p g m n) (g n) 0 + 1)) (tally p g m (n + 1)) long
      (λ k h. let l : k < m = rw (length-set, tally_length) at h in
      at_place n k (eqb (g n) k) b refl ∙ ap (λ (x : ℕ). x + bump (eqb (g n) k)) (tally_at n k l) ∙ sym (tally_at (n + 1) k l ∙ more k))
    where
      long : length (set (tally p g m n) (g n) (get_or (tally p g m n) (g n) 0 + 1)) ≡ length (tally p g m (n + 1))
      long = simp (length-set, tally_length)

      more : (k : ℕ) → how_many (λ i. p i && eqb (g i) k) (n + 1) ≡ how_many (λ i. p i && eqb (g i) k) n + bump (eqb (g n) k)
      more k = how_many_more (λ i. p i && eqb (g i) k) n ∙ rw e refl
