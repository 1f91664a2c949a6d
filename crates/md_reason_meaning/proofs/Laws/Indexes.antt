-- Numbers below n that pass a test: one index more (`passing_hit`, `passing_miss`, `passing_count`), fewer below less (`passing_fewer`); and that the last of them is that of `last_of`
-- (`passing_last`); that there are none exactly where none passes (`passing_none`, `none_passing`). Assumes nothing.
use Prim.Native.Nat.{ℕ, zero, suc, ◌+◌, ◌-◌, ◌≤◌, ◌<◌}
use mathlib.Core.Path.{◌≡◌, refl, sym, ap, ◌∙◌}
use mathlib.Core.Bool.{Bool, true, false}
use mathlib.Core.List.{List, [], ◌∷◌, ◌++◌, append-nil}
use native.Mathlib.Nat.{add-zero}
use native.Mathlib.Numerals.{add-one}
use native.Mathlib.Omega.{arith}
use lib.ListN.{length, length-append}
use Rattle.base.specs.Numbers.{bump}
use Rattle.base.proofs.Laws.In.{In}
use Rattle.base.proofs.Laws.Tests.{by_bool}
use Rattle.cd_order.specs.Chosen.{passing}
use Rattle.cd_order.proofs.Laws.Chosen.{chosen_none, chosen_more, chosen_all}
use Rattle.md_growth.specs.Text.{last_of}

-- the last of a list, and 1; 0 of none
abbrev pub last_in : List ℕ → ℕ
last_in [] = 0
last_in (x ∷ []) = x + 1
last_in (x ∷ y ∷ l) = last_in (y ∷ l)

last_behind : (l : List ℕ) (n : ℕ) → last_in (l ++ (n ∷ [])) ≡ n + 1
last_behind [] n = refl
last_behind (x ∷ []) n = refl
last_behind (x ∷ y ∷ l) n = last_behind (y ∷ l) n

empty : (l : List ℕ) (x : ℕ) → length l ≡ 0 → In x l → ⊥
empty [] x e i = i
empty (y ∷ l) x e i = omega arith

module _ (test : ℕ → Bool) where
  pub passing_hit : (n : ℕ) → test n ≡ true → passing test (n + 1) ≡ passing test n ++ (n ∷ [])
  passing_hit n e = chosen_more test n ∙ rw e

  pub passing_miss : (n : ℕ) → test n ≡ false → passing test (n + 1) ≡ passing test n
  passing_miss n e = chosen_more test n ∙ rw e (append-nil (passing test n))

  pub passing_count : (n : ℕ) → length (passing test (n + 1)) ≡ length (passing test n) + bump (test n)
  passing_count n =
      by_bool (test n)
      (λ e. rw e (ap length (passing_hit n e) ∙ length-append (passing test n) (n ∷ [])))
      (λ e. rw e (omega (arith, ap length (passing_miss n e))))

  grown : (n k : ℕ) → length (passing test n) ≤ length (passing test (n + k))
  grown n zero = rw add-zero (omega arith)
  grown n (suc k) =
      let e : n + suc k ≡ n + k + 1 = omega arith in
      rw e (omega (arith, grown n k, passing_count (n + k)))

  pub passing_fewer : (m n : ℕ) → m ≤ n → length (passing test m) ≤ length (passing test n)
  passing_fewer m n h =
      let e : m + (n - m) ≡ n = omega arith in
      rw e at (grown m (n - m))

  -- where none passes the list is empty
  pub passing_none : (n : ℕ) → ((i : ℕ) → i < n → test i ≡ false) → length (passing test n) ≡ 0
  passing_none zero h = ap length (chosen_none test)
  passing_none (suc n) h =
      ap (λ (m : ℕ). length (passing test m)) (sym (add-one n)) ∙ ap length (passing_miss n (h n (omega arith))) ∙ passing_none n (λ i l. h i (omega arith))

  -- and where it is empty none passes
  pub none_passing : (n : ℕ) → length (passing test n) ≡ 0 → (i : ℕ) → i < n → test i ≡ false
  none_passing n e i h = by_bool (test i) (λ t. absurd (empty (passing test n) i e (chosen_all test n i h t))) (λ t. t)

  -- the last of them is the last index at which the test holds
  pub passing_last : (n : ℕ) → last_in (passing test n) ≡ last_of test n
  unfolding last_of
  passing_last zero = ap last_in (chosen_none test)
  passing_last (suc n) =
      ap (λ (m : ℕ). last_in (passing test m)) (sym (add-one n))
      ∙ by_bool (test n)
      (λ e. rw e (ap last_in (passing_hit n e) ∙ last_behind (passing test n) n))
      (λ e. rw e (ap last_in (passing_miss n e) ∙ passing_last n))
