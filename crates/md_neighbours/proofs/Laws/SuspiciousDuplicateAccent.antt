-- How large the counts of doubled accents can be: a letter adds at most 2. So a step has room, the counts are small, and its ratio is at
-- most 4. And `plain_letter`: a letter without accent adds only to n, which is the code's short way. A run of
-- such letters is the same as feeding them one by one (`run_one`, `run_more`).
-- Assumes nothing.
use Prim.Native.Nat.{ℕ, ◌+◌, ◌*◌, ◌≤◌}
use mathlib.Core.Path.{◌≡◌, sym}
use mathlib.Core.Bool.{true, false, ◌&&◌}
use native.Mathlib.Nat.{add-zero, add_assoc}
use native.Mathlib.Omega.{arith}
use lib.Dec.{eqb}
use Rattle.base.specs.Flags.{has, ALPHABETIC, LATIN, ACCENTUATED, UPPERCASE}
use Rattle.base.specs.Inner.Limits.{LARGEST}
use Rattle.base.proofs.Laws.Numbers.{bump_small}
use Rattle.base.proofs.Laws.Tests.{by_bool, cond_both, and_r}
use Rattle.classes.specs.declared.Class.{Class}
use Rattle.ratio.specs.Inner.Fraction.{Small}
use Rattle.ratio.specs.Fraction.{share_of}
use Rattle.md_neighbours.specs.declared.suspicious_duplicate_accent.SuspiciousDuplicateAccent.{SuspiciousDuplicateAccent}
use Rattle.md_neighbours.specs.SuspiciousDuplicateAccent.{start, latin_letter, both, letter, feed, counts}
use Rattle.md_neighbours.specs.Inner.SuspiciousDuplicateAccent.{Room, plain, plain_run, feed_run}

-- what holds after k characters
pub record Within (k : ℕ) (s : SuspiciousDuplicateAccent) : Type 0 where
  pub characters : s.characters ≤ k
  pub successive : s.successive ≤ 2 * s.characters

pub start_within : Within 0 start
start_within = record { characters = omega arith; successive = omega arith }

module _ (k : ℕ) (s : SuspiciousDuplicateAccent) (w : Within k s) where
  letter_within : (c : Class) → Within (k + 1) (letter s c)
  unfolding letter
  letter_within c =
      let u = bump_small (both s c.flags ACCENTUATED && both s c.flags UPPERCASE) in
      let b = bump_small (both s c.flags ACCENTUATED && eqb c.base s.base) in
      record { characters = omega arith; successive = omega arith }

  pub feed_within : (c : Class) → Within (k + 1) (feed s c)
  unfolding feed
  feed_within c =
      cond_both (Within (k + 1)) (latin_letter c.flags) _ _ (letter_within c)
      (record { characters = omega arith; successive = w.successive })

  pub within_room : k ≤ LARGEST → Room s
  within_room h = record { characters = omega arith; successive = omega arith }

  pub within_small : k ≤ LARGEST → Small (share_of (counts s))
  unfolding counts
  within_small h = record { num = omega arith; den = omega arith }

  -- 01: ratios of doubled accents are at most 4
  pub counts_bound : (counts s).numerator ≤ 4 * (counts s).denominator
  unfolding counts
  counts_bound = omega arith

pub plain_letter : (s : SuspiciousDuplicateAccent) (c : Class) → has c.flags ACCENTUATED ≡ false → plain s c ≡ letter s c
unfolding plain letter both
plain_letter s c e = simp (e, add-zero)

-- runs of letters without accent, or of characters that are passed over
module _ (s : SuspiciousDuplicateAccent) (c : Class) (e : has c.flags LATIN && has c.flags ACCENTUATED ≡ false) where
  plain_latin : (t : SuspiciousDuplicateAccent) → latin_letter c.flags ≡ true → plain t c ≡ letter t c
  unfolding latin_letter
  plain_latin t p = plain_letter t c (rw (and_r (has c.flags ALPHABETIC) (has c.flags LATIN) p) at e)

  pub run_one : feed_run s c.flags c.base 1 ≡ feed s c
  unfolding feed_run plain_run feed plain
  run_one = by_bool (latin_letter c.flags) (λ p. simp p (plain_latin s p)) (λ p. simp p)

  pub run_more : (m b : ℕ) → feed_run s c.flags c.base (m + 2) ≡ feed (feed_run s c.flags b (m + 1)) c
  unfolding feed_run plain_run feed plain
  run_more m b =
      by_bool (latin_letter c.flags)
      (λ p. simp (p, add_assoc, sym (plain_latin (plain_run s c.flags b (m + 1)) p)))
      (λ p. simp p)

-- a character that is no Latin letter is passed over
pub feed_passes : (s : SuspiciousDuplicateAccent) (c : Class) → latin_letter c.flags ≡ false → feed s c ≡ s
unfolding feed
feed_passes s c e = rw e
