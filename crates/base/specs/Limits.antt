-- The limits and sizes of document 01, by name. The same names stand in src/limits.rt, with _ for -.
-- Assumes nothing.
use Rattle.std.specs.Prelude.{ℕ}

-- bytes that the reader takes (01, refusal 1)
abbrev pub LONGEST_BYTES : ℕ
LONGEST_BYTES = 262144

-- code points of a text that is read or scored (01, refusal 1)
abbrev pub LONGEST_TEXT : ℕ
LONGEST_TEXT = 65536

-- code points of a text that is ranked (01, refusal 1 in coherence)
abbrev pub LONGEST_RANKED : ℕ
LONGEST_RANKED = 8192

-- the built-in table classes the code points below this; a lent record starts at it or past it
abbrev pub BUILTIN_END : ℕ
BUILTIN_END = 0x250

-- the last code point
abbrev pub LAST_POINT : ℕ
LAST_POINT = 0x10FFFF

-- the first surrogate code point
abbrev pub SURROGATE_FIRST : ℕ
SURROGATE_FIRST = 0xD800

-- the last surrogate code point
abbrev pub SURROGATE_LAST : ℕ
SURROGATE_LAST = 0xDFFF

-- bytes of a class record
abbrev pub CLASS_RECORD : ℕ
CLASS_RECORD = 24

-- class records in a table
abbrev pub MOST_CLASSES : ℕ
MOST_CLASSES = 8192

-- the largest number of a range
abbrev pub LAST_RANGE : ℕ
LAST_RANGE = 511

-- range numbers, 0 (none) among them: the pair table has RANGES rows of RANGES bits
abbrev pub RANGES : ℕ
RANGES = 512

-- bytes of a pair table
abbrev pub PAIR_BYTES : ℕ
PAIR_BYTES = 32768

-- bytes of a language record
abbrev pub LANGUAGE_RECORD : ℕ
LANGUAGE_RECORD = 1032

-- letters that a language record has room for
abbrev pub LANGUAGE_LETTERS : ℕ
LANGUAGE_LETTERS = 256

-- language records in a table
abbrev pub MOST_LANGUAGES : ℕ
MOST_LANGUAGES = 63

-- the largest marks of a language record: 1 accents, 2 pure Latin, or both
abbrev pub MOST_MARKS : ℕ
MOST_MARKS = 3

-- included language numbers
abbrev pub MOST_INCLUDED : ℕ
MOST_INCLUDED = 64

-- u32 of the work area for each code point that is ranked (02 [4])
abbrev pub WORK_PER_POINT : ℕ
WORK_PER_POINT = 8

-- U+000A, which is fed after every text
abbrev pub NEWLINE : ℕ
NEWLINE = 10
