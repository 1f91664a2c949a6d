-- How large the counts of symbols can be: a character that counts is punctuation or a symbol and not both, so the two together are at most
-- the printable characters. So a step has room, the counts are small, and its ratio is at most 2. And `plain_printable`: a
-- character that is neither punctuation nor a symbol adds only to n, which is the code's short way. A run of
-- such characters is the same as feeding them one by one (`run_one`, `run_more`).
-- Assumes nothing.
use Prim.Native.Nat.{ℕ, ◌+◌, ◌*◌, ◌≤◌}
use mathlib.Core.Path.{◌≡◌, refl, sym}
use mathlib.Core.Bool.{Bool, true, false, ◌&&◌, ◌||◌, and-false}
use native.Mathlib.Nat.{add-zero, add_assoc}
use native.Mathlib.Omega.{arith}
use Rattle.base.specs.Flags.{has, UNPRINTABLE, PUNCTUATION, SYMBOL}
use Rattle.base.specs.Inner.Limits.{LARGEST}
use Rattle.base.specs.Numbers.{bump}
use Rattle.base.proofs.Laws.Numbers.{bump_small}
use Rattle.base.proofs.Laws.Tests.{by_bool, cond_both}
use Rattle.classes.specs.declared.Class.{Class}
use Rattle.ratio.specs.Inner.Fraction.{Small}
use Rattle.ratio.specs.Fraction.{share_of}
use Rattle.md_counts.specs.declared.too_many_symbol_or_punctuation.TooManySymbolOrPunctuation.{TooManySymbolOrPunctuation}
use Rattle.md_counts.specs.TooManySymbolOrPunctuation.{start, adds, counted_symbol, printable, feed, counts}
use Rattle.md_counts.specs.Inner.TooManySymbolOrPunctuation.{Room, marked, plain, feed_run}

-- what holds after k characters
pub record Within (k : ℕ) (s : TooManySymbolOrPunctuation) : Type 0 where
  pub characters : s.characters ≤ k
  pub counted : s.punctuation + s.symbols ≤ s.characters

pub start_within : Within 0 start
start_within = record { characters = omega arith; counted = omega arith }

-- punctuation or a symbol, and not both
one_of : (counted : Bool) (flags : ℕ) → bump (counted && has flags PUNCTUATION) + bump (counted && counted_symbol flags) ≤ 1
unfolding counted_symbol
one_of false flags = omega arith
one_of true flags =
    by_bool (has flags PUNCTUATION) (λ e. rw e (omega arith)) (λ e. let b = rw e at (bump_small (counted_symbol flags)) in rw e (omega arith))

module _ (k : ℕ) (s : TooManySymbolOrPunctuation) (w : Within k s) where
  printable_within : (c : Class) → Within (k + 1) (printable s c)
  unfolding printable
  printable_within c =
      let o = one_of (adds s c) c.flags in
      record { characters = omega arith; counted = omega arith }

  pub feed_within : (c : Class) → Within (k + 1) (feed s c)
  unfolding feed
  feed_within c =
      cond_both (Within (k + 1)) (has c.flags UNPRINTABLE) _ _ (record { characters = omega arith; counted = w.counted })
      (printable_within c)

  pub within_room : k ≤ LARGEST → Room s
  within_room h = record { characters = omega arith; punctuation = omega arith; symbols = omega arith }

  pub within_small : k ≤ LARGEST → Small (share_of (counts s))
  unfolding counts
  within_small h = record { num = omega arith; den = omega arith }

  -- 01: ratios of symbols are at most 2
  pub counts_bound : (counts s).numerator ≤ 2 * (counts s).denominator
  unfolding counts
  counts_bound = omega arith

neither : (a b : Bool) → (a || b) ≡ false → (a ≡ false) × (b ≡ false)
neither false b e = (refl, e)
neither true b e = let z : true ≡ false = e in (z, cc)

pub plain_printable : (s : TooManySymbolOrPunctuation) (c : Class) → marked c.flags ≡ false → plain s c.point ≡ printable s c
unfolding marked plain printable counted_symbol
plain_printable s c e =
    let n = neither (has c.flags PUNCTUATION) (has c.flags SYMBOL) e in
    simp (n.0, n.1, and-false, add-zero)

-- runs of such characters
module _ (s : TooManySymbolOrPunctuation) (c : Class) (e : has c.flags UNPRINTABLE ≡ false) (n : marked c.flags ≡ false) where
  pub run_one : feed_run s 1 c.point ≡ feed s c
  unfolding feed_run feed plain
  run_one = simp e (plain_printable s c n)

  pub run_more : (m p : ℕ) → feed_run s (m + 2) c.point ≡ feed (feed_run s (m + 1) p) c
  unfolding feed_run feed plain
  run_more m p = simp (e, add_assoc, sym (plain_printable (feed_run s (m + 1) p) c n))
