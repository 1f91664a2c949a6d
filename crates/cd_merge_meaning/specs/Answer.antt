-- What the merging call answers and what it leaves in the lent output, for every input (02 [14], "Refusals: 18 for more than 64 rankings, or lengths over
-- 63, or not adding up to the list; then 4 for a score that isn't from 0 to 1, at its place in the list; then 3 if the output has fewer entries than there
-- are languages"; "Other entries of the output stay"). A list of an odd number of u32 is no list of entries: no lengths add up to it.
-- Assumes nothing.
use Rattle.std.specs.Prelude.{ℕ, ◌+◌, ◌*◌, Bool, false, not, ◌&&◌, ◌||◌, List, [], ◌∷◌, length, eqb, ltb, Float, Result, ⊤}
use Rattle.std.specs.Float.Ieee.{of_bits, le}
use Rattle.std.specs.Float.{binary32}
use Rattle.base.specs.declared.Refusal.{Refusal}
use Rattle.base.specs.Causes.{given, first_of}
use Rattle.base.specs.Counted.{count_unless, lent_after}
use Rattle.base.specs.First.{first}
use Rattle.base.specs.declared.refusals.Cause.TheVariants.{NoRoom, NotFinite, BadLengths}
use Rattle.ratio.specs.Rounded.{ZERO}
use Rattle.cd_merge_meaning.specs.Entries.{entries_in, entries, score_at}
use Rattle.cd_merge_meaning.specs.Merge.{firsts, merged, merged_words}

-- "up to 64 earlier rankings"
abbrev pub MOST_RANKINGS : ℕ
MOST_RANKINGS = 64

-- "lengths over 63"
abbrev pub LONGEST_RANKING : ℕ
LONGEST_RANKING = 63

-- whether a length is over 63
unfoldable pub over : List ℕ → Bool
over [] = false
over (n ∷ l) = ltb LONGEST_RANKING n || over l

-- what the lengths add up to
unfoldable pub total : List ℕ → ℕ
total [] = 0
total (n ∷ l) = n + total l

unfoldable pub unfit : List ℕ → List ℕ → Bool
unfit list lengths = ltb MOST_RANKINGS (length lengths) || (over lengths || not (eqb (total lengths * 2) (length list)))

-- 18: "more than 64 rankings, or lengths over 63, or not adding up to the list"
unfoldable pub bad_lengths : List ℕ → List ℕ → Result ⊤ Refusal
bad_lengths list lengths = given (unfit list lengths) BadLengths 0

-- "a score .. from 0 to 1". A NaN is none; -0.0 is 0
unfoldable pub is_score : Float → Bool
is_score x = le ZERO x && le x (of_bits binary32 0x3F800000)

-- the first entry whose score is none; the number of entries where there is none
unfoldable pub first_bad : List ℕ → ℕ
first_bad list = first (λ i. not (is_score (score_at list i))) (entries list)

-- 4: "a score that isn't from 0 to 1, at its place in the list"
unfoldable pub bad_score : List ℕ → Result ⊤ Refusal
bad_score list = given (ltb (first_bad list) (entries list)) NotFinite (first_bad list)

-- 3: "if the output has fewer entries than there are languages"
unfoldable pub no_room : List ℕ → ℕ → Result ⊤ Refusal
no_room list room = given (ltb (entries_in room) (length (firsts list))) NoRoom 0

-- in a call whose output has this room
unfoldable pub merge_causes : List ℕ → List ℕ → ℕ → Result ⊤ Refusal
merge_causes list lengths room = first_of (bad_lengths list lengths ∷ bad_score list ∷ no_room list room ∷ [])

unfoldable pub merge_answer : List ℕ → List ℕ → ℕ → Result ℕ Refusal
merge_answer list lengths room = count_unless (merge_causes list lengths room) (length (merged list))

unfoldable pub merge_into : List ℕ → List ℕ → List ℕ → List ℕ
merge_into list lengths out = lent_after (merge_causes list lengths (length out)) (merged_words list) out
