-- How large the counts of unprintables can be: the unprintable characters are at most the characters. So a step has room, the counts are
-- small, and its ratio is at most 8. A run is the same as feeding its characters one by one (`run_one`, `run_more`).
-- Assumes nothing.
use Prim.Native.Nat.{ℕ, ◌+◌, ◌*◌, ◌≤◌}
use mathlib.Core.Path.{◌≡◌}
use mathlib.Core.Bool.{false}
use native.Mathlib.Nat.{add-zero, add_assoc}
use native.Mathlib.Omega.{arith}
use Rattle.base.specs.Flags.{has, UNPRINTABLE}
use Rattle.base.specs.Inner.Limits.{LARGEST}
use Rattle.base.proofs.Laws.Numbers.{bump_small}
use Rattle.classes.specs.declared.Class.{Class}
use Rattle.ratio.specs.Inner.Fraction.{Small}
use Rattle.ratio.specs.Fraction.{share_of}
use Rattle.md_counts.specs.declared.unprintable.Unprintable.{Unprintable}
use Rattle.md_counts.specs.Unprintable.{start, feed, counts}
use Rattle.md_counts.specs.Inner.Unprintable.{Room, feed_run}

-- what holds after k characters
pub record Within (k : ℕ) (s : Unprintable) : Type 0 where
  pub characters : s.characters ≤ k
  pub unprintable : s.unprintable ≤ s.characters

pub start_within : Within 0 start
start_within = record { characters = omega arith; unprintable = omega arith }

module _ (k : ℕ) (s : Unprintable) (w : Within k s) where
  pub feed_within : (c : Class) → Within (k + 1) (feed s c)
  unfolding feed
  feed_within c =
      let u = bump_small (has c.flags UNPRINTABLE) in
      record { characters = omega arith; unprintable = omega arith }

  pub within_room : k ≤ LARGEST → Room s
  within_room h = record { characters = omega arith; unprintable = omega arith }

  pub within_small : k ≤ LARGEST → Small (share_of (counts s))
  unfolding counts
  within_small h = record { num = omega arith; den = omega arith }

  -- 01: ratios of unprintables are at most 8
  pub counts_bound : (counts s).numerator ≤ 8 * (counts s).denominator
  unfolding counts
  counts_bound = omega arith

-- runs: a printable character adds only to n
module _ (s : Unprintable) (c : Class) (e : has c.flags UNPRINTABLE ≡ false) where
  pub run_one : feed_run s 1 ≡ feed s c
  unfolding feed_run feed
  run_one = simp (e, add-zero)

  pub run_more : (m : ℕ) → feed_run s (m + 2) ≡ feed (feed_run s (m + 1)) c
  unfolding feed_run feed
  run_more m = simp (e, add-zero, add_assoc)
