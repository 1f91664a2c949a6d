-- How large the counts of weird words can be: after k characters at most k stand in words, and those of bad words are among them. So a
-- step has room, the counts are small, and its ratio is at most 1. A run is the same as feeding its characters one by one (`run_one`, `run_more`). Where ASCII
-- letters are Latin and have no accent, no word is watched and none has accents (`feed_unwatched`).
-- Assumes nothing.
use Prim.Native.Nat.{ℕ, ◌+◌, ◌*◌, ◌≤◌}
use mathlib.Core.Path.{◌≡◌, refl, sym, ap, ◌∙◌}
use mathlib.Core.Bool.{Bool, true, false, cond, ◌||◌, and-false, or_assoc, or_self}
use native.Mathlib.Nat.{add-zero, add_assoc}
use native.Mathlib.Omega.{arith}
use lib.Dec.{eqb}
use Rattle.base.specs.Flags.{has, SYMBOL, ASCII_ALPHABETIC, LATIN, ACCENTUATED, UPPERCASE}
use Rattle.base.specs.Inner.Limits.{LARGEST}
use Rattle.base.specs.Numbers.{bump}
use Rattle.base.proofs.Laws.Numbers.{bump_small}
use Rattle.base.proofs.Laws.Tests.{by_bool, cond_both}
use Rattle.classes.specs.declared.Class.{Class}
use Rattle.ratio.specs.Inner.Fraction.{Small}
use Rattle.ratio.specs.Fraction.{share_of}
use Rattle.md_words.specs.declared.super_weird_word.SuperWeirdWord.{SuperWeirdWord}
use Rattle.md_words.specs.SuperWeirdWord.{start, watched, closes, counted, letter, symbol, accented, capital, long, close, inside, feed, counts}
use Rattle.md_words.specs.Inner.SuperWeirdWord.{Room, Unwatched, letters, feed_run}
use Rattle.md_words.proofs.Laws.ArchaicUpperLower.{cond_alike}

-- what holds after k characters
pub record Within (k : ℕ) (s : SuperWeirdWord) : Type 0 where
  pub characters : s.characters + s.length ≤ k
  pub words : s.words ≤ k
  pub foreign : s.foreign ≤ 2 * s.words
  pub spoilt : s.spoilt ≤ s.characters
  pub accents : s.accents ≤ s.length
  pub uppercase : s.uppercase ≤ s.length

pub start_within : Within 0 start
start_within =
    record {
      characters = omega arith;
      words = omega arith;
      foreign = omega arith;
      spoilt = omega arith;
      accents = omega arith;
      uppercase = omega arith;
    }

module _ (k : ℕ) (s : SuperWeirdWord) (w : Within k s) where
  letter_within : (f : ℕ) → Within (k + 1) (letter s f)
  unfolding letter
  letter_within f =
      let a = bump_small (has f ACCENTUATED) in
      let u = bump_small (has f UPPERCASE) in
      record {
        characters = omega arith;
        words = omega arith;
        foreign = w.foreign;
        spoilt = w.spoilt;
        accents = omega arith;
        uppercase = omega arith;
      }

  symbol_within : (f : ℕ) → Within (k + 1) (symbol s f)
  unfolding symbol
  symbol_within f =
      let u = bump_small (has f UPPERCASE) in
      record {
        characters = omega arith;
        words = omega arith;
        foreign = w.foreign;
        spoilt = w.spoilt;
        accents = omega arith;
        uppercase = omega arith;
      }

  close_within : Within (k + 1) (close s)
  unfolding close
  close_within =
      let p = bump_small (capital s) in
      let q = bump_small (long s) in
      let l : cond (s.bad || accented s || capital s || long s) s.length 0 ≤ s.length =
      cond_both (λ (n : ℕ). n ≤ s.length) (s.bad || accented s || capital s || long s) _ _ (omega arith) (omega arith) in
      record {
        characters = omega arith;
        words = omega arith;
        foreign = omega arith;
        spoilt = omega arith;
        accents = omega arith;
        uppercase = omega arith;
      }

  -- the character is passed over
  passed_within : Within (k + 1) s
  passed_within =
      record {
        characters = omega arith;
        words = omega arith;
        foreign = w.foreign;
        spoilt = w.spoilt;
        accents = w.accents;
        uppercase = w.uppercase;
      }

  inside_within : (f : ℕ) → Within (k + 1) (inside s f)
  unfolding inside
  inside_within f =
      cond_both (Within (k + 1)) (closes f) _ _ close_within
      (cond_both (Within (k + 1)) (counted f) _ _ (symbol_within f) passed_within)

  pub feed_within : (c : Class) → Within (k + 1) (feed s c)
  unfolding feed
  feed_within c =
      cond_both (Within (k + 1)) (has c.flags ASCII_ALPHABETIC) _ _ (letter_within c.flags)
      (cond_both (Within (k + 1)) (eqb s.length 0) _ _ passed_within (inside_within c.flags))

  pub within_room : k ≤ LARGEST → Room s
  within_room h =
      record {
        characters = omega arith;
        words = omega arith;
        foreign = omega arith;
        spoilt = omega arith;
        accents = omega arith;
        uppercase = omega arith;
        length = omega arith;
      }

  pub within_small : k ≤ LARGEST → Small (share_of (counts s))
  unfolding counts
  within_small h = record { num = omega arith; den = omega arith }

  -- 01: ratios of weird words are at most 1
  pub counts_bound : (counts s).numerator ≤ 1 * (counts s).denominator
  unfolding counts
  counts_bound = omega arith

-- runs: letters with the same flags enter the word; characters that neither close it nor enter it are passed over
letters_one : (s : SuperWeirdWord) (f : ℕ) → letters s f 1 ≡ letter s f
unfolding letters letter
letters_one s f = refl

letters_more : (s : SuperWeirdWord) (f m : ℕ) → letters s f (m + 2) ≡ letter (letters s f (m + 1)) f
unfolding letters letter
letters_more s f m = simp (or_assoc, or_self, more, add_assoc)
  where
    more : (b : Bool) (n m : ℕ) → n + cond b (m + 2) 0 ≡ n + cond b (m + 1) 0 + bump b
    more true n m = simp add_assoc
    more false n m = simp add-zero

feed_letter : (s : SuperWeirdWord) (c : Class) → has c.flags ASCII_ALPHABETIC ≡ true → feed s c ≡ letter s c.flags
unfolding feed
feed_letter s c p = rw p

module _ (s : SuperWeirdWord) (c : Class) (e : closes c.flags ≡ false) (y : has c.flags SYMBOL ≡ false) where
  pub feed_passes : has c.flags ASCII_ALPHABETIC ≡ false → feed s c ≡ s
  unfolding feed inside counted
  feed_passes p = simp (p, e, y, and-false, cond_alike)

  pub run_one : feed_run s c.flags 1 ≡ feed s c
  unfolding feed_run
  run_one =
      by_bool (has c.flags ASCII_ALPHABETIC)
      (λ p. simp (p, feed_letter s c p, letters_one s c.flags))
      (λ p. simp (p, feed_passes p))

  pub run_more : (m : ℕ) → feed_run s c.flags (m + 2) ≡ feed (feed_run s c.flags (m + 1)) c
  unfolding feed_run
  run_more m =
      by_bool (has c.flags ASCII_ALPHABETIC)
      (λ p. simp (p, feed_letter (letters s c.flags (m + 1)) c p, letters_more s c.flags m))
      (λ p. simp (p, feed_passes p))

pub start_unwatched : Unwatched start
start_unwatched = record { watch = refl; accents = refl }

-- a Latin letter without accent makes no word foreign
not_watched : (f : ℕ) → has f LATIN ≡ true → has f ACCENTUATED ≡ false → watched f ≡ false
unfolding watched
not_watched f l a = rw (l, a)

module _ (s : SuperWeirdWord) (u : Unwatched s) where
  letter_unwatched : (f : ℕ) → has f LATIN ≡ true → has f ACCENTUATED ≡ false → Unwatched (letter s f)
  unfolding letter
  letter_unwatched f l a = record { watch = rw (u.watch, not_watched f l a); accents = rw (u.accents, a) }

  symbol_unwatched : (f : ℕ) → Unwatched (symbol s f)
  unfolding symbol
  symbol_unwatched f = record { watch = u.watch; accents = u.accents }

  close_unwatched : Unwatched (close s)
  unfolding close
  close_unwatched = record { watch = refl; accents = refl }

  inside_unwatched : (f : ℕ) → Unwatched (inside s f)
  unfolding inside
  inside_unwatched f =
      cond_both Unwatched (closes f) _ _ close_unwatched (cond_both Unwatched (counted f) _ _ (symbol_unwatched f) u)

  pub feed_unwatched : (c : Class) → (has c.flags ASCII_ALPHABETIC ≡ true → has c.flags LATIN ≡ true)
      → (has c.flags ASCII_ALPHABETIC ≡ true → has c.flags ACCENTUATED ≡ false)
      → Unwatched (feed s c)
  unfolding feed
  feed_unwatched c l a =
      by_bool (has c.flags ASCII_ALPHABETIC)
      (λ e. rw e (letter_unwatched c.flags (l e) (a e)))
      (λ e. rw e (cond_both Unwatched (eqb s.length 0) _ _ u (inside_unwatched c.flags)))

  -- so the state is as it is where the two are told
  abbrev told : Bool → ℕ → SuperWeirdWord
  told b n =
      record {
        characters = s.characters;
        words = s.words;
        foreign = s.foreign;
        spoilt = s.spoilt;
        bad = s.bad;
        watch = b;
        accents = n;
        uppercase = s.uppercase;
        length = s.length;
        last = s.last;
      }

  pub unwatched_same : told false 0 ≡ s
  unwatched_same = ap (λ (b : Bool). told b 0) (sym u.watch) ∙ ap (λ (n : ℕ). told s.watch n) (sym u.accents)
