-- Words of inner contracts, beside Limits: `LONGEST_LAYER`, `MOST_LETTERS`, `RECORDS`, `LARGEST`. No public promise rests on them.
-- Assumes nothing.
use Rattle.std.specs.Prelude.{ℕ}

-- letters of a layer: one for each code point, and two for U+0130 (02 [4])
abbrev pub LONGEST_LAYER : ℕ
LONGEST_LAYER = 16384

-- distinct letters of a layer: one for each code point, and U+0307
abbrev pub MOST_LETTERS : ℕ
MOST_LETTERS = 8193

-- above every record's place, whether counted from 0 or from 1: a key that ranks records keeps the record below this
abbrev pub RECORDS : ℕ
RECORDS = 64

-- the most characters for which the laws of the detectors' counts are stated: 4 * LONGEST-TEXT. A running state that is lent has counts of
-- at most twice the number received, which is LONGEST-TEXT at most; and the end of a word adds two of them
abbrev pub LARGEST : ℕ
LARGEST = 262144
