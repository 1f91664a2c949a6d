-- The walk over the lengths that adds them up (`Adding`).
-- Assumes nothing.
use Prim.Native.Nat.{ℕ, ◌+◌, ◌≤◌, ◌<◌}
use mathlib.Core.Path.{◌≡◌}
use mathlib.Core.Bool.{false}
use mathlib.Core.List.{List}
use native.Mathlib.Numerals.{add-one}
use native.Mathlib.Omega.{arith}
use lib.ListN.{length, get_or, drop, drop_of_length-le}
use lib.Seq.{drop-cons}
use Rattle.cd_merge_meaning.specs.Answer.{MOST_RANKINGS, over, total}
use Rattle.cd_merge_meaning.specs.Inner.Good.{MOST_ENTRIES}
use Rattle.cd_merge_meaning.proofs.Laws.Check.{total_small}

-- the first i are added
pub record Adding (l : List ℕ) (sum i : ℕ) : Type 0 where
  pub below : i ≤ length l
  pub all : sum + total (drop i l) ≡ total l

module _ (l : List ℕ) where
  pub adding_start : Adding l 0 0
  adding_start = record { below = omega arith; all = omega arith }

  module _ {sum i : ℕ} (g : Adding l sum i) where
    next : i < length l → total (drop i l) ≡ get_or l i 0 + total (drop (i + 1) l)
    unfolding total
    next h = rw (drop-cons l i 0 h, add-one i)

    pub adding_more : i < length l → Adding l (sum + get_or l i 0) (i + 1)
    adding_more h = record { below = omega arith; all = omega (arith, g.all, next h) }

    pub adding_small : length l ≤ MOST_RANKINGS → over l ≡ false → i < length l → sum + get_or l i 0 ≤ MOST_ENTRIES
    adding_small m o h = omega (arith, g.all, next h, total_small l l m o)

    pub adding_end : length l ≤ i → sum ≡ total l
    unfolding total
    adding_end h = let e : sum + 0 ≡ total l = rw (drop_of_length-le l h) at g.all in omega arith
