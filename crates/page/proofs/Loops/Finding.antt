-- The place of the first element that passes, or the length where none does, is the first index at which the test holds (`first_position`).
-- Assumes nothing.
use Prim.Native.Nat.{ℕ}
use mathlib.Core.Path.{◌≡◌, refl, sym, ◌∙◌}
use mathlib.Core.Bool.{Bool, true, false, cond}
use mathlib.Core.List.{List}
use native.Mathlib.Omega.{arith}
use lib.ListN.{length, get_or}
use lib.Dec.{ltb}
use borrow.Author.Tests.{ltb-false}
use Rattle.std.proofs.Common.{Some, None}
use Rattle.std.specs.Option.{unwrap_or}
use Rattle.std.specs.List.{position, position_or_len}
use Rattle.std.proofs.lemmas.List.Sums.{position_or_len_is}
use Rattle.base.specs.First.{first}
use Rattle.base.proofs.Laws.First.{first_before, first_found, first_within}

picked : (b : Bool) (x n : ℕ) → (b ≡ false → x ≡ n) → unwrap_or (cond b (Some x) None) n ≡ x
picked true x n h = refl
picked false x n h = sym (h refl)

module _ (p : ℕ → Bool) (l : List ℕ) where
  place : position_or_len p l ≡ first (λ i. p (get_or l i 0)) (length l)
  place =
      position_or_len_is p l (first (λ i. p (get_or l i 0)) (length l)) 0 (first_within (λ i. p (get_or l i 0)) (length l))
      (λ k h. first_before (λ i. p (get_or l i 0)) (length l) k h)
      (λ h. first_found (λ i. p (get_or l i 0)) (length l) h)

  pub first_position : unwrap_or (position p l) (length l) ≡ first (λ i. p (get_or l i 0)) (length l)
  first_position =
      picked (ltb (position_or_len p l) (length l)) (position_or_len p l) (length l)
      (λ e. omega (arith, ltb-false _ _ e, place, first_within (λ i. p (get_or l i 0)) (length l)))
      ∙ place
