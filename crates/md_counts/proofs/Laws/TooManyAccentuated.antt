-- How large the counts of accents can be: the accented letters are at most the letters. So a step has room, the counts are small, and
-- its ratio is at most 1. A run is the same as feeding its characters one by one (`run_one`, `run_more`).
-- Assumes nothing.
use Prim.Native.Nat.{ℕ, ◌+◌, ◌*◌, ◌≤◌}
use mathlib.Core.Path.{◌≡◌, refl}
use mathlib.Core.Bool.{Bool, true, false, cond, ◌&&◌}
use native.Mathlib.Nat.{add-zero, add_assoc}
use native.Mathlib.Omega.{arith}
use Rattle.base.specs.Flags.{has, ALPHABETIC, ACCENTUATED}
use Rattle.base.specs.Inner.Limits.{LARGEST}
use Rattle.base.specs.Numbers.{bump}
use Rattle.base.proofs.Laws.Numbers.{bump_small}
use Rattle.base.proofs.Laws.Tests.{by_bool, cond_both}
use Rattle.classes.specs.declared.Class.{Class}
use Rattle.ratio.specs.Inner.Fraction.{Small}
use Rattle.ratio.specs.Fraction.{share_of}
use Rattle.md_counts.specs.declared.too_many_accentuated.TooManyAccentuated.{TooManyAccentuated}
use Rattle.md_counts.specs.TooManyAccentuated.{start, counted, feed, counts}
use Rattle.md_counts.specs.Inner.TooManyAccentuated.{Room, counted_run, feed_run}

-- what holds after k characters
pub record Within (k : ℕ) (s : TooManyAccentuated) : Type 0 where
  pub characters : s.characters ≤ k
  pub accentuated : s.accentuated ≤ s.characters

pub start_within : Within 0 start
start_within = record { characters = omega arith; accentuated = omega arith }

module _ (k : ℕ) (s : TooManyAccentuated) (w : Within k s) where
  counted_within : (c : Class) → Within (k + 1) (counted s c)
  unfolding counted
  counted_within c =
      let a = bump_small (has c.flags ACCENTUATED) in
      record { characters = omega arith; accentuated = omega arith }

  pub feed_within : (c : Class) → Within (k + 1) (feed s c)
  unfolding feed
  feed_within c =
      cond_both (Within (k + 1)) (has c.flags ALPHABETIC) _ _ (counted_within c)
      (record { characters = omega arith; accentuated = w.accentuated })

  pub within_room : k ≤ LARGEST → Room s
  within_room h = record { characters = omega arith; accentuated = omega arith }

  pub within_small : k ≤ LARGEST → Small (share_of (counts s))
  unfolding counts
  within_small h = record { num = omega arith; den = omega arith }

  -- 01: ratios of accents are at most 1
  pub counts_bound : (counts s).numerator ≤ 1 * (counts s).denominator
  unfolding counts
  counts_bound = omega arith

-- runs: letters with the same flags are all accented or none
pub more : (b : Bool) (n m : ℕ) → n + cond b (m + 2) 0 ≡ n + cond b (m + 1) 0 + bump b
more true n m = simp add_assoc
more false n m = simp add-zero

module _ (s : TooManyAccentuated) (c : Class) where
  pub run_one : feed_run s c.flags 1 ≡ feed s c
  unfolding feed_run counted_run feed counted
  run_one = refl

  pub run_more : (m : ℕ) → feed_run s c.flags (m + 2) ≡ feed (feed_run s c.flags (m + 1)) c
  unfolding feed_run counted_run feed counted
  run_more m = by_bool (has c.flags ALPHABETIC) (λ p. simp (p, more, add_assoc)) (λ p. simp p)

-- without a branch: what is no letter adds 0 to either count
pub added : (s : TooManyAccentuated) (f m : ℕ)
    → ◌≡◌ {A = TooManyAccentuated}
    (record { characters = s.characters + cond (has f ALPHABETIC) m 0; accentuated = s.accentuated + cond (has f ALPHABETIC && has f ACCENTUATED) m 0 })
    (feed_run s f m)
unfolding feed_run counted_run
added s f m = by_bool (has f ALPHABETIC) (λ p. simp p) (λ p. simp (p, add-zero))

-- a character that is no letter is passed over
pub feed_passes : (s : TooManyAccentuated) (c : Class) → has c.flags ALPHABETIC ≡ false → feed s c ≡ s
unfolding feed
feed_passes s c e = rw e
