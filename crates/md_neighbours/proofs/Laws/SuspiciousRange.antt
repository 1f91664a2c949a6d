-- How large the counts of ranges can be: a suspicious character is a printable one. So a step has room, the counts are small, and its
-- ratio is at most 2. And the last range is one that a character had, so that it has a row in the pair table. A run
-- is the same as feeding its characters one by one (`run_one`, `run_more`).
-- Assumes nothing.
use Prim.Native.Nat.{ℕ, ◌+◌, ◌-◌, ◌*◌, ◌≤◌}
use mathlib.Core.Path.{◌≡◌, refl}
use mathlib.Core.Bool.{Bool, true, false, cond, ◌&&◌}
use native.Mathlib.Nat.{add-zero, add_assoc}
use native.Mathlib.Omega.{arith}
use Rattle.base.specs.Flags.{has, UNPRINTABLE}
use Rattle.base.specs.Inner.Limits.{LARGEST}
use Rattle.base.specs.Numbers.{bump}
use Rattle.base.proofs.Laws.Numbers.{bump_small}
use Rattle.base.proofs.Laws.Tests.{cond_both}
use Rattle.classes.specs.declared.Class.{Class}
use Rattle.ratio.specs.Inner.Fraction.{Small}
use Rattle.ratio.specs.Fraction.{share_of}
use Rattle.md_neighbours.specs.declared.suspicious_range.SuspiciousRange.{SuspiciousRange}
use Rattle.md_neighbours.specs.SuspiciousRange.{start, forgets, forgotten, followed, feed, counts}
use Rattle.md_neighbours.specs.Inner.SuspiciousRange.{Room, feed_run}

-- what holds after k characters
pub record Within (k : ℕ) (s : SuspiciousRange) : Type 0 where
  pub characters : s.characters ≤ k
  pub suspicious : s.suspicious ≤ s.characters

pub start_within : Within 0 start
start_within = record { characters = omega arith; suspicious = omega arith }

module _ (k : ℕ) (s : SuspiciousRange) (w : Within k s) where
  forgotten_within : Within (k + 1) (forgotten s)
  unfolding forgotten
  forgotten_within = record { characters = omega arith; suspicious = omega arith }

  followed_within : (c : Class) (suspicious : Bool) → Within (k + 1) (followed s c suspicious)
  unfolding followed
  followed_within c suspicious =
      let b = bump_small (s.seen && suspicious) in
      record { characters = omega arith; suspicious = omega arith }

  pub feed_within : (c : Class) (suspicious : Bool) → Within (k + 1) (feed s c suspicious)
  unfolding feed
  feed_within c suspicious =
      cond_both (Within (k + 1)) (has c.flags UNPRINTABLE) _ _ (record { characters = omega arith; suspicious = w.suspicious })
      (cond_both (Within (k + 1)) (forgets c.flags) _ _ forgotten_within (followed_within c suspicious))

  pub within_room : k ≤ LARGEST → Room s
  within_room h = record { characters = omega arith; suspicious = omega arith }

  pub within_small : k ≤ LARGEST → Small (share_of (counts s))
  unfolding counts
  within_small h = record { num = omega arith; den = omega arith }

  -- 01: ratios of ranges are at most 2
  pub counts_bound : (counts s).numerator ≤ 2 * (counts s).denominator
  unfolding counts
  counts_bound = omega arith

-- the last range stays at most m where the characters' ranges are
pub last_most : (m : ℕ) (s : SuspiciousRange) (c : Class) (suspicious : Bool) → s.last ≤ m → c.range ≤ m → (feed s c suspicious).last ≤ m
unfolding feed forgotten followed
last_most m s c suspicious h r =
    cond_both (λ (t : SuspiciousRange). t.last ≤ m) (has c.flags UNPRINTABLE) s _ h
    (cond_both (λ (t : SuspiciousRange). t.last ≤ m) (forgets c.flags) (forgotten s) (followed s c suspicious) (omega arith) r)

-- runs: after the first, each character follows one of its own range
none : (b : Bool) (n : ℕ) → n + cond b 0 0 ≡ n
none true n = add-zero n
none false n = add-zero n

more : (b : Bool) (n m : ℕ) → n + cond b (m + 2 - 1) 0 ≡ n + cond b (m + 1 - 1) 0 + bump b
more true n m = omega arith
more false n m = simp add-zero

module _ (s : SuspiciousRange) (c : Class) (e : has c.flags UNPRINTABLE ≡ false) (f : forgets c.flags ≡ false) (x y : Bool) where
  pub run_one : feed_run s c.range 1 x y ≡ feed s c x
  unfolding feed_run feed followed
  run_one = simp (e, f, none y)

  pub run_more : (m : ℕ) → feed_run s c.range (m + 2) x y ≡ feed (feed_run s c.range (m + 1) x y) c y
  unfolding feed_run feed followed
  run_more m = simp (e, f, more y, add_assoc)

-- a printable character that forgets the last one does not read the pair's bit
pub feed_forgets : (s : SuspiciousRange) (c : Class) (x : Bool) → has c.flags UNPRINTABLE ≡ false → forgets c.flags ≡ true → feed s c x ≡ forgotten s
unfolding feed
feed_forgets s c x e f = rw (e, f)
