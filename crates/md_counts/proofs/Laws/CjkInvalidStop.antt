-- How large the counts of CJK stops can be: a character is a stop or a CJK character and not both, so the two together are at most the
-- characters. So a step has room and the counts are small. Its ratio has no bound of its own (01: "All but CJK stops").
-- A run is the same as feeding its characters one by one (`run_one`, `run_more`).
-- Assumes nothing.
use Prim.Native.Nat.{ℕ, ◌+◌, ◌≤◌}
use mathlib.Core.Path.{◌≡◌}
use mathlib.Core.Bool.{Bool, true, false, not, ◌&&◌}
use native.Mathlib.Nat.{add-zero}
use native.Mathlib.Omega.{arith}
use Rattle.base.specs.Flags.{has, CJK}
use Rattle.base.specs.Inner.Limits.{LARGEST}
use Rattle.base.specs.Numbers.{bump}
use Rattle.base.proofs.Laws.Numbers.{bump_small}
use Rattle.classes.specs.declared.Class.{Class}
use Rattle.ratio.specs.Inner.Fraction.{Small}
use Rattle.ratio.specs.Fraction.{share_of}
use Rattle.md_counts.specs.declared.cjk_invalid_stop.CjkInvalidStop.{CjkInvalidStop}
use Rattle.md_counts.specs.CjkInvalidStop.{wrong_stop, start, feed, counts}
use Rattle.md_counts.specs.Inner.CjkInvalidStop.{Room, feed_run}
use Rattle.md_counts.proofs.Laws.TooManyAccentuated.{more}

-- what holds after k characters
pub record Within (k : ℕ) (s : CjkInvalidStop) : Type 0 where
  pub counted : s.wrong + s.cjk ≤ k

pub start_within : Within 0 start
start_within = record { counted = omega arith }

one_of : (wrong cjk : Bool) → bump wrong + bump (not wrong && cjk) ≤ 1
one_of true cjk = omega arith
one_of false cjk = omega (arith, bump_small cjk)

module _ (k : ℕ) (s : CjkInvalidStop) (w : Within k s) where
  pub feed_within : (c : Class) → Within (k + 1) (feed s c)
  unfolding feed
  feed_within c =
      let o = one_of (wrong_stop c.point) (has c.flags CJK) in
      record { counted = omega arith }

  pub within_room : k ≤ LARGEST → Room s
  within_room h = record { wrong = omega arith; cjk = omega arith }

  pub within_small : k ≤ LARGEST → Small (share_of (counts s))
  unfolding counts
  within_small h = record { num = omega arith; den = omega arith }

-- runs: characters with the same flags, none of them a stop, are all CJK characters or none
module _ (s : CjkInvalidStop) (c : Class) (e : wrong_stop c.point ≡ false) where
  pub run_one : feed_run s c.flags 1 ≡ feed s c
  unfolding feed_run feed
  run_one = simp (e, add-zero)

  pub run_more : (m : ℕ) → feed_run s c.flags (m + 2) ≡ feed (feed_run s c.flags (m + 1)) c
  unfolding feed_run feed
  run_more m = simp (e, more, add-zero)

-- a character that is neither is passed over
pub feed_passes : (s : CjkInvalidStop) (c : Class) → wrong_stop c.point ≡ false → has c.flags CJK ≡ false → feed s c ≡ s
unfolding feed
feed_passes s c w e = simp (w, e, add-zero)
