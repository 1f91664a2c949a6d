-- The limits of the replay, by the names of src/main.rt; and what `set_ranges` leaves: ranges in the first n words, and as many words as before.
-- Assumes nothing.
use Prim.Native.Nat.{ℕ, ◌+◌, ◌≤◌, ◌<◌}
use mathlib.Core.Path.{◌≡◌, refl, sym, ◌∙◌}
use mathlib.Core.List.{List}
use native.Mathlib.Omega.{arith}
use lib.ListN.{length, get_or, set, take, length-set, get_or-eq_default}
use lib.Seq.{get_or-set_same, get_or-set_other, get_or-take, length-take-le}
use Rattle.base.specs.Limits.{LAST_RANGE}
use Rattle.base.proofs.Laws.Tests.{split}
use Rattle.cd_work.specs.Inner.Layout.{words}
use Rattle.cd_work.specs.Inner.Parts.{Room}
use Rattle.cd_layers.specs.Inner.Numbers.{Below}
use Rattle.cd_layers.proofs.Laws.Numbers.{layers_few}
use Rattle.cd_layers.specs.Inner.Split.{Split}
use Rattle.cd_letters.specs.Letters.{count}
use Rattle.cd_letters.proofs.Laws.Letters.{count_few}
use Rattle.replay_layers.specs.Inner.Filling.{LONGEST, Filled}

-- the first i are in
pub record Filling (n : ℕ) (w v : List ℕ) (i : ℕ) : Type 0 where
  pub below : i ≤ n
  pub size : length v ≡ length w
  pub ranges : (j : ℕ) → j < i → get_or v j 0 ≤ LAST_RANGE

module _ (n : ℕ) (w : List ℕ) where
  pub fill_start : Filling n w w 0
  fill_start = record { below = omega arith; size = refl; ranges = λ j h. absurd (no h) }
    where
      no : {j : ℕ} → j < 0 → ⊥
      no h = omega arith

  module _ {v : List ℕ} {i : ℕ} (g : Filling n w v i) (z : n ≤ length w) where
    pub fill_on : (r : ℕ) → i < n → r ≤ LAST_RANGE → Filling n w (set v i r) (i + 1)
    fill_on r h l =
        record {
          below = omega arith;
          size = length-set v i r ∙ g.size;
          ranges = λ j k.
              split j i (λ a. rw (get_or-set_other v i j r 0 (λ e. absurd (no a e))) (g.ranges j a))
              (λ a. let e : j ≡ i = omega arith in rw (e, get_or-set_same v i r 0 (omega (arith, g.size))) l);
        }
      where
        no : {a b : ℕ} → a < b → a ≡ b → ⊥
        no h e = omega arith

    pub fill_end : n ≤ i → Filled n w v
    fill_end h =
        record {
          size = g.size;
          ranges = λ j.
              split j n (λ a. rw (get_or-take n v j 0 a) (g.ranges j (omega arith)))
              (λ a. rw (get_or-eq_default (take n v) 0 {n = j} (omega (arith, length-take-le n v (omega (arith, g.size))))) (omega arith));
        }

-- the work area has room for a text that is not too long
pub roomy : (n : ℕ) (w : List ℕ) → words n ≤ length w → n ≤ LONGEST → Room n w
roomy n w z h = record { few = omega arith; wide = z }

-- a layer has no more letters than the text
pub sized : (k n : ℕ) (w : List ℕ) (c : ℕ) → words n ≤ length w → c ≡ count k (take n w) → c ≤ n
sized k n w c z e = omega (arith, count_few k (take n w), length-take-le n w (omega arith))

pub counted : (n : ℕ) (w : List ℕ) → words n ≤ length w → n ≡ length (take n w)
counted n w z = sym (length-take-le n w (omega arith))

-- the split leaves at most LAST-RANGE layers
pub split_few : (pairs : List ℕ) (n : ℕ) (w v : List ℕ) (c : ℕ) → Split pairs n w v c → Below (take n w) → c ≤ LAST_RANGE
split_few pairs n w v c s b = omega (arith, s.count, layers_few pairs (take n w) b)
