-- A ranking by value has the matches that it was made of (`matches_are`), and a refusal none (`matches_none`), which its answer tells (`refused_count`).
-- Assumes nothing.
use Rattle.std.specs.Prelude.{Ok, Err}
use Prim.Native.Nat.{ℕ, zero, suc, ◌+◌, ◌-◌, ◌≤◌, ◌<◌}
use mathlib.Core.Path.{◌≡◌, refl, ◌∙◌}
use mathlib.Core.List.{List, [], map}
use native.Mathlib.Omega.{arith}
use lib.ListN.{length, get_or, take, drop, replicate, length-map, get_or-append, get_or-map}
use lib.Seq.{drop-cons, take-length}
use lib.Ieee.{nan, of_bits, binary32}
use Rattle.base.specs.declared.Refusal.{Refusal}
use Rattle.base.specs.Limits.{MOST_LANGUAGES}
use Rattle.cd_ranking.specs.declared.CoherenceMatch.{CoherenceMatch}
use Rattle.cd_ranking.specs.Ranking.{language, score, padded, by_value}
use Rattle.cd_list.specs.Inner.Lent.{entry_of, entries_from, matches_in, answer_of}

-- what stands past the end of a list
abbrev past : CoherenceMatch
past = record { language = 0; score = nan }

-- the arrays are not looked at past the matches
padded_at : {A : Type 0} (z d : A) (l : List A) (i : ℕ) → i < length l → get_or (padded z l) i d ≡ get_or l i d
padded_at z d l i h = get_or-append l (replicate (MOST_LANGUAGES - length l) z) d i h

module _ (ms : List CoherenceMatch) where
  entry_is : (i : ℕ) → i < length ms → entry_of (by_value ms) i ≡ get_or ms i past
  unfolding by_value
  entry_is i h =
      rw (
        padded_at 0 0 (map language ms) i (rw (length-map ms language) h),
        padded_at (of_bits binary32 0) nan (map score ms) i (rw (length-map ms score) h),
        get_or-map language ms i past,
        get_or-map score ms i past,
      )

  entries_are : (n i : ℕ) → i + n ≤ length ms → entries_from (by_value ms) i n ≡ take n (drop i ms)
  unfolding entries_from
  entries_are zero i h = refl
  entries_are (suc n) i h =
      rw (entry_is i (omega arith), entries_are n (suc i) (omega arith), drop-cons ms i past (omega arith))

  pub matches_are : matches_in (Ok (by_value ms)) ≡ ms
  unfolding by_value matches_in
  matches_are = entries_are (length ms) 0 (omega arith) ∙ take-length ms

pub matches_none : (r : Refusal) → matches_in (Err r) ≡ []
unfolding matches_in
matches_none r = refl

pub refused_count : (r : Refusal) → (answer_of (Err r)).count ≡ 0
unfolding answer_of
refused_count r = refl
