-- The checkpoints under way: the stop is still to be looked for from i on.
-- Assumes nothing.
use Prim.Native.Nat.{ℕ, ◌+◌, ◌≤◌, ◌<◌}
use mathlib.Core.Path.{◌≡◌, refl, sym, ◌∙◌}
use mathlib.Core.Bool.{Bool, true, false}
use mathlib.Core.List.{List}
use native.Mathlib.Omega.{arith}
use lib.Ieee.{Float}
use borrow.Author.Tests.{lt-ltb, le-ltb}
use Rattle.base.specs.First.{first}
use Rattle.base.specs.Inner.First.{first_from}
use Rattle.base.proofs.Laws.First.{first_start, first_hit, first_miss, first_end}
use Rattle.md_meaning.specs.Scan.{scored}
use Rattle.md_second.specs.Inner.After.{eight_after}
use Rattle.md_second.specs.Inner.Listed.{stops_there, list_score}

module _ (points flags ranges bases pairs : List ℕ) (size : ℕ) (threshold : Float) where
  abbrev there : ℕ → Bool
  there = stops_there points flags ranges bases pairs size threshold

  pub record Comparing (total i : ℕ) : Type 0 where
    pub below : i ≤ total
    pub counted : total ≡ size + 1
    pub running : first_from there (size + 1) i ≡ first there (size + 1)

  pub comparing_start : Comparing (size + 1) 0
  comparing_start = record { below = omega arith; counted = refl; running = first_start there (size + 1) }

  module _ {total i : ℕ} (g : Comparing total i) where
    module _ (h : i < total) {o : Bool} (e : o ≡ there i) where
      -- no stop here
      pub comparing_more : o ≡ false → Comparing total (i + 1)
      comparing_more n =
          record {
            below = omega arith;
            counted = g.counted;
            running = sym (first_miss there (size + 1) i (omega (arith, g.counted)) (sym e ∙ n)) ∙ g.running;
          }

      -- the stop
      pub comparing_stop : o ≡ true → scored (eight_after points flags ranges bases pairs (i + 1)) (i + 1) true ≡ list_score points flags ranges bases pairs size threshold
      unfolding list_score
      comparing_stop y =
          let l : i < size + 1 = omega (arith, g.counted) in
          let k : first there (size + 1) ≡ i = sym g.running ∙ first_hit there (size + 1) i l (sym e ∙ y) in
          sym (simp (k, lt-ltb i (size + 1) l))

    -- no stop at all
    pub comparing_end : total ≤ i → scored (eight_after points flags ranges bases pairs total) total false ≡ list_score points flags ranges bases pairs size threshold
    unfolding list_score
    comparing_end h =
        let e : i ≡ size + 1 = omega (arith, g.counted, g.below) in
        let k : first there (size + 1) ≡ i = sym g.running ∙ first_end there (size + 1) i e in
        sym (simp (k, le-ltb i (size + 1) (omega arith)) (rw g.counted))
