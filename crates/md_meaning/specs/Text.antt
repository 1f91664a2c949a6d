-- 01, "The scan": the characters that are fed, one after the other, and the indexes at which the sum is compared.
-- Assumes nothing.
use Rattle.std.specs.Prelude.{ℕ, ◌+◌, ◌-◌, ◌%◌, Bool, cond, List, leb, eqb, length, get_or}
use Rattle.base.specs.Limits.{NEWLINE}

-- the character at i: behind the text stands the newline
abbrev pub char_at : List ℕ → ℕ → ℕ
char_at text i = get_or text i NEWLINE

-- how many characters there are, the newline counted
abbrev pub total : List ℕ → ℕ
total text = length text + 1

abbrev pub SHORT_LENGTH : ℕ
SHORT_LENGTH = 510

abbrev pub MIDDLE_LENGTH : ℕ
MIDDLE_LENGTH = 1023

abbrev pub SHORT_PERIOD : ℕ
SHORT_PERIOD = 32

abbrev pub MIDDLE_PERIOD : ℕ
MIDDLE_PERIOD = 64

abbrev pub LONG_PERIOD : ℕ
LONG_PERIOD = 128

-- "The period is 32 for up to 510 characters, 64 for 511 to 1,023, else 128, counted before the newline is appended"
unfoldable pub period : ℕ → ℕ
period n = cond (leb n SHORT_LENGTH) SHORT_PERIOD (cond (leb n MIDDLE_LENGTH) MIDDLE_PERIOD LONG_PERIOD)

-- "At index mod period = period - 1 the sum is compared": in a text of n characters, after the one at i
unfoldable pub checkpoint : ℕ → ℕ → Bool
checkpoint n i = eqb (i % period n) (period n - 1)
