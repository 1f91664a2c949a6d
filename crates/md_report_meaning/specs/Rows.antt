-- The rows of many lines, as `score_lines` leaves them: 37 u32 a line, and no check that they are such. A refusal's number and place (0 and 0 where the line
-- was accepted), the bits of the eight ratios and of their sum, the characters fed and the mark of having stopped; then of each detector, in md.rs's order,
-- the numerator, the denominator and the mark of a cut-off, which is not read. Words past the last whole row are no line.
-- Assumes nothing.
use Rattle.std.specs.Prelude.{ℕ, ◌+◌, ◌*◌, ◌/◌, Bool, List, eqb, length, get_or}
use Rattle.base.specs.Refusals.{ACCEPTED}

-- u32 of a row
abbrev pub WORDS : ℕ
WORDS = 37

-- where the first detector's ratio and its three numbers stand in a row
abbrev pub RATIOS_AT : ℕ
RATIOS_AT = 2

abbrev pub SHOWN_AT : ℕ
SHOWN_AT = 13

-- numbers of a detector: its numerator, its denominator and the mark
abbrev pub NUMBERS : ℕ
NUMBERS = 3

-- how many lines are given
unfoldable pub lines_in : List ℕ → ℕ
lines_in rows = length rows / WORDS

-- a word of the line i
abbrev pub word : List ℕ → ℕ → ℕ → ℕ
word rows i at = get_or rows (i * WORDS + at) 0

-- the line's number, 0 where it was accepted
unfoldable pub number_at : List ℕ → ℕ → ℕ
number_at rows i = word rows i 0

unfoldable pub accepted_at : List ℕ → ℕ → Bool
accepted_at rows i = eqb (number_at rows i) ACCEPTED

-- of the detector d, from 0 on, in the line i: the bits of the ratio, the numerator, the denominator
unfoldable pub ratio_at : List ℕ → ℕ → ℕ → ℕ
ratio_at rows d i = word rows i (RATIOS_AT + d)

unfoldable pub numerator_at : List ℕ → ℕ → ℕ → ℕ
numerator_at rows d i = word rows i (SHOWN_AT + d * NUMBERS)

unfoldable pub denominator_at : List ℕ → ℕ → ℕ → ℕ
denominator_at rows d i = word rows i (SHOWN_AT + d * NUMBERS + 1)
