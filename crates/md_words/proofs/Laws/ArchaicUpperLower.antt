-- How large the counts of archaic case can be. Each 2 of a run stands for two characters since the last separator, the one that set
-- `buf` and the one that cleared it: a run, with `buf` as 1, is at most the characters since, and the runs counted at most those before.
-- So a step has room, the counts are small, and its ratio is at most 1. A run is the same as feeding its characters one by one: letters with case (`cased_one`, `cased_more`), and
-- characters without (`uncased_one`, `uncased_more`), from states that feeding reaches (`Settled`).
-- Assumes nothing.
use Prim.Native.Nat.{ℕ, ◌+◌, ◌*◌, ◌%◌, ◌≤◌}
use mathlib.Core.Path.{◌≡◌, refl}
use mathlib.Core.Bool.{Bool, true, false, cond, not, ◌&&◌, and-true, and-false, and_assoc, and_self}
use native.Mathlib.Nat.{add-zero, add_assoc}
use native.Mathlib.Omega.{arith}
use lib.Dec.{eqb, ltb}
use borrow.Author.Tests.{ne_eqb, eqb-true, eqb-false, ltb-false}
use Rattle.base.specs.Flags.{has, ALPHABETIC, CASE_VARIABLE}
use Rattle.base.specs.Inner.Limits.{LARGEST}
use Rattle.base.specs.Numbers.{bump}
use Rattle.base.proofs.Laws.Tests.{by_bool, cond_both}
use Rattle.classes.specs.declared.Class.{Class}
use Rattle.ratio.specs.Inner.Fraction.{Small}
use Rattle.ratio.specs.Fraction.{share_of}
use Rattle.md_words.specs.declared.archaic_upper_lower.ArchaicUpperLower.{ArchaicUpperLower}
use Rattle.md_words.specs.ArchaicUpperLower.{start, separates, counted, separator, changes, letter, feed, counts}
use Rattle.md_words.specs.Inner.ArchaicUpperLower.{Room, feed_cased, closed_total, in_turn, seen_last, feed_uncased}

-- what holds after k characters
pub record Within (k : ℕ) (s : ArchaicUpperLower) : Type 0 where
  pub characters : s.characters ≤ k
  pub total : s.total + s.since ≤ s.characters
  pub run : s.run + bump s.buf ≤ s.since

pub start_within : Within 0 start
start_within = record { characters = omega arith; total = omega arith; run = omega arith }

-- one character more sets `buf`, or clears it and adds 2, or clears it
paired : (changed buf : Bool) → cond (changed && buf) 2 0 + bump (changed && not buf) ≤ bump buf + 1
paired true true = omega arith
paired true false = omega arith
paired false true = omega arith
paired false false = omega arith

module _ (k : ℕ) (s : ArchaicUpperLower) (w : Within k s) where
  separator_within : (f : ℕ) → Within (k + 1) (separator s f)
  unfolding separator
  separator_within f =
      let l : cond (counted s f) s.run 0 ≤ s.run = cond_both (λ (n : ℕ). n ≤ s.run) (counted s f) _ _ (omega arith) (omega arith) in
      record { characters = omega arith; total = omega arith; run = omega arith }

  letter_within : (f : ℕ) → Within (k + 1) (letter s f)
  unfolding letter
  letter_within f =
      let p = paired (changes s.last f) s.buf in
      record { characters = omega arith; total = omega arith; run = omega arith }

  pub feed_within : (c : Class) → Within (k + 1) (feed s c)
  unfolding feed
  feed_within c =
      cond_both (Within (k + 1)) (separates s c.flags) _ _ (separator_within c.flags) (letter_within c.flags)

  pub within_room : k ≤ LARGEST → Room s
  within_room h = record { characters = omega arith; since = omega arith; run = omega arith; total = omega arith }

  pub within_small : k ≤ LARGEST → Small (share_of (counts s))
  unfolding counts
  within_small h = record { num = omega arith; den = omega arith }

  -- 01: ratios of archaic case are at most 1
  pub counts_bound : (counts s).numerator ≤ 1 * (counts s).denominator
  unfolding counts
  counts_bound = omega arith

pub cond_alike : {A : Type 0} (b : Bool) (x : A) → cond b x x ≡ x
cond_alike true x = refl
cond_alike false x = refl

-- runs: only the first of letters with case and the same flags can change the case
pub cased_one : (s : ArchaicUpperLower) (c : Class) → has c.flags ALPHABETIC && has c.flags CASE_VARIABLE ≡ true → feed_cased s c.flags 1 ≡ feed s c
unfolding feed_cased letter feed separates
cased_one s c e = simp (e, and-true)

pub cased_more : (s : ArchaicUpperLower) (c : Class) (m : ℕ)
    → has c.flags ALPHABETIC && has c.flags CASE_VARIABLE ≡ true
    → changes c.flags c.flags ≡ false
    → feed_cased s c.flags (m + 2) ≡ feed (feed_cased s c.flags (m + 1)) c
unfolding feed_cased letter feed separates
cased_more s c m e k =
    let q : eqb (m + 2) 1 ≡ false = ne_eqb (m + 2) 1 (λ h. omega (arith, h)) in
    simp (e, k, q, and-false, and_assoc, and_self, add-zero, add_assoc)

-- after none the case does not change
pub no_change : (f : ℕ) → changes 0 f ≡ false
unfolding changes has
no_change f = simp and-false

-- nothing is kept where nothing was seen since the last separator: so it is in every state that feeding reaches
pub record Fresh (s : ArchaicUpperLower) : Type 0 where
  pub run : s.run ≡ 0
  pub last : s.last ≡ 0
  pub ascii : s.ascii ≡ true
  pub buf : s.buf ≡ false

abbrev pub Settled : ArchaicUpperLower → Type 0
Settled s = s.since ≡ 0 → Fresh s

pub start_settled : Settled start
start_settled h = record { run = refl; last = refl; ascii = refl; buf = refl }

separator_settled : (s : ArchaicUpperLower) (f : ℕ) → Settled (separator s f)
unfolding separator
separator_settled s f h = record { run = refl; last = refl; ascii = refl; buf = refl }

letter_settled : (s : ArchaicUpperLower) (f : ℕ) → Settled (letter s f)
unfolding letter
letter_settled s f h = absurd (omega (arith, h))

pub feed_settled : (s : ArchaicUpperLower) (c : Class) → Settled (feed s c)
unfolding feed
feed_settled s c =
    cond_both Settled (separates s c.flags) _ _ (separator_settled s c.flags) (letter_settled s c.flags)

-- characters that are no letters with case: each is a letter seen or a separator, in turn
module _ (s : ArchaicUpperLower) (c : Class) (e : has c.flags ALPHABETIC && has c.flags CASE_VARIABLE ≡ false) where
  to_seen : (k : ℕ) → in_turn s c.flags 1 (k + 2) ≡ feed (in_turn s c.flags 0 (k + 1)) c
  unfolding in_turn feed separates letter
  to_seen k = simp (e, no_change c.flags, add-zero, add_assoc)

  to_separator : (k : ℕ) → in_turn s c.flags 0 (k + 2) ≡ feed (in_turn s c.flags 1 (k + 1)) c
  unfolding in_turn feed separates separator
  to_separator k = simp (e, cond_alike, add-zero, add_assoc)

  pub uncased_one : Settled s → feed_uncased s c.flags 1 ≡ feed s c
  unfolding seen_last in_turn closed_total feed separates separator letter
  uncased_one k =
      by_bool (ltb 0 s.since)
      (λ p. simp (e, p))
      (λ p.
      let z : s.since ≡ 0 = omega (arith, ltb-false 0 s.since p) in
      let r = k z in
      simp (e, z, r.run, r.last, r.ascii, r.buf, no_change c.flags, cond_alike, add-zero))

  pub uncased_more : (m : ℕ) → feed_uncased s c.flags (m + 2) ≡ feed (feed_uncased s c.flags (m + 1)) c
  unfolding seen_last
  uncased_more m =
      let b = bump (ltb 0 s.since) in
      by_bool (eqb ((m + 1 + b) % 2) 0)
      (λ p.
      let z : (m + 1 + b) % 2 ≡ 0 = eqb-true _ _ p in
      let n : (m + 2 + b) % 2 ≡ 1 = omega (arith, z) in
      rw (z, n) (to_seen m))
      (λ p.
      let z : (m + 1 + b) % 2 ≡ 1 = omega (arith, eqb-false ((m + 1 + b) % 2) 0 p) in
      let n : (m + 2 + b) % 2 ≡ 0 = omega (arith, z) in
      rw (z, n) (to_separator m))
