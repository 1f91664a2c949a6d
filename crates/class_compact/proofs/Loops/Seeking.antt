-- A walk from the front that looks for the first index at which a test holds (`Seeking`): its start, a hit, its step and its end.
-- Assumes nothing.
use Prim.Native.Nat.{ℕ, ◌+◌, ◌≤◌, ◌<◌}
use mathlib.Core.Path.{◌≡◌, sym, ◌∙◌}
use mathlib.Core.Bool.{Bool, true, false}
use native.Mathlib.Omega.{arith}
use Rattle.base.specs.First.{first}
use Rattle.base.specs.Inner.First.{first_from}
use Rattle.base.proofs.Laws.First.{first_start, first_hit, first_miss, first_end}

pub record Seeking (f : ℕ → Bool) (n i : ℕ) : Type 0 where
  pub below : i ≤ n
  pub so_far : first_from f n i ≡ first f n

module _ (f : ℕ → Bool) (n : ℕ) where
  pub seeking_start : Seeking f n 0
  seeking_start = record { below = omega arith; so_far = first_start f n }

  module _ {i : ℕ} (s : Seeking f n i) where
    pub seeking_hit : i < n → f i ≡ true → i ≡ first f n
    seeking_hit h e = sym (first_hit f n i h e) ∙ s.so_far

    pub seeking_more : i < n → f i ≡ false → Seeking f n (i + 1)
    seeking_more h e = record { below = omega arith; so_far = sym (first_miss f n i h e) ∙ s.so_far }

    pub seeking_end : n ≤ i → n ≡ first f n
    seeking_end h = let e : n ≡ i = omega (arith, s.below) in e ∙ sym (first_end f n i (sym e)) ∙ s.so_far
