-- How many cases a replay compares at the most (`MOST_CASES`), and how far the words of a case go that a program names (`MOST_WORDS`).
-- Assumes nothing.
use Rattle.std.specs.Prelude.{ℕ}

-- as in src/lib.rt
abbrev pub MOST_CASES : ℕ
MOST_CASES = 100000

-- more words than any case has
abbrev pub MOST_WORDS : ℕ
MOST_WORDS = 1000000
