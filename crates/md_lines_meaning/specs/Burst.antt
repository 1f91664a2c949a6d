-- Many lines scored in one call, for every input (beyond 01, and in its manner). Causes of refusal of the whole call: 1 over LONGEST-BURST
-- bytes, then scoring's 4, 5, 7, then 3 where the lent output holds fewer than NUMBERS-PER-LINE u32 for each line; a refusal "changes nothing
-- lent". Else each line is read and scored as UTF-8 bytes are, and the numbers of its answer stand in its place in the output; a refused
-- line does not refuse the call. "The rest stays." The laws stand in proofs/Laws/Burst.
-- Assumes nothing.
use Rattle.std.specs.Prelude.{ℕ, ◌+◌, ◌*◌, List, [], ◌∷◌, ◌++◌, ltb, Float, length, Result, ⊤}
use Rattle.base.specs.declared.Refusal.{Refusal}
use Rattle.base.specs.Causes.{given, first_of}
use Rattle.base.specs.Counted.{count_unless, lent_after}
use Rattle.base.specs.Numbers.{bump}
use Rattle.base.specs.declared.refusals.Cause.TheVariants.{TooLong, NoRoom}
use Rattle.classes.specs.Check.{bad_classes}
use Rattle.classes.specs.Pairs.{bad_pairs}
use Rattle.ratio.specs.Eight.{DETECTORS, bits}
use Rattle.ratio.specs.Rounded.{bits_of}
use Rattle.ratio.specs.Shown.{NUMBERS_SHOWN, shown_numbers}
use Rattle.ratio.specs.Finite.{not_finite}
use Rattle.md_meaning.specs.Values.{Values, values}
use Rattle.md_utf8_meaning.specs.ScoreUtf8.{mess_ratio_utf8}
use Rattle.md_lines_meaning.specs.Lines.{lines_of}
use Rattle.md_meaning.specs.declared.Score.{Score}

-- u32 of the output for each line
abbrev pub NUMBERS_PER_LINE : ℕ
NUMBERS_PER_LINE = DETECTORS + 5 + NUMBERS_SHOWN

-- bytes of a burst
abbrev pub LONGEST_BURST : ℕ
LONGEST_BURST = 16777216

-- the values of an answer as numbers: a refusal's number and place, the eight ratios and their sum, the characters fed, 1 where the scan stopped
-- early, and of each detector numerator, denominator and mark
unfoldable pub numbers : Values → List ℕ
numbers v =
    v.number ∷ v.place ∷ (bits v.ratios ++ (bits_of v.sum ∷ v.fed ∷ bump v.stopped ∷ shown_numbers v.counts))

unfoldable pub row_numbers : Result Score Refusal → List ℕ
row_numbers a = numbers (values a)

module _ (threshold : Float) (classes pairs : List ℕ) where
  -- the row of one line
  abbrev pub row_of : List ℕ → List ℕ
  row_of line = row_numbers (mess_ratio_utf8 line threshold classes pairs)

  -- the rows of the lines, one behind the other
  unfoldable pub rows : List (List ℕ) → List ℕ
  rows [] = []
  rows (l ∷ ls) = row_of l ++ rows ls

-- 1: over LONGEST-BURST bytes
unfoldable pub many_bytes : List ℕ → Result ⊤ Refusal
many_bytes bytes = given (ltb LONGEST_BURST (length bytes)) TooLong 0

-- 3: "lent output .. too short"
unfoldable pub no_room : List ℕ → ℕ → Result ⊤ Refusal
no_room bytes room = given (ltb room (NUMBERS_PER_LINE * length (lines_of bytes))) NoRoom 0

-- 1, 4, 5, 7, 3, in a call whose output has this room
unfoldable pub causes : List ℕ → Float → List ℕ → List ℕ → ℕ → Result ⊤ Refusal
causes bytes threshold classes pairs room =
    first_of (many_bytes bytes ∷ not_finite threshold ∷ bad_classes classes ∷ bad_pairs pairs ∷ no_room bytes room ∷ [])

-- the number of lines, or the refusal
unfoldable pub answer : List ℕ → Float → List ℕ → List ℕ → ℕ → Result ℕ Refusal
answer bytes threshold classes pairs room = count_unless (causes bytes threshold classes pairs room) (length (lines_of bytes))

-- the lent output after the call
unfoldable pub out_after : List ℕ → Float → List ℕ → List ℕ → List ℕ → List ℕ
out_after bytes threshold classes pairs out =
    lent_after (causes bytes threshold classes pairs (length out)) (rows threshold classes pairs (lines_of bytes)) out
