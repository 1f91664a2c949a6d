-- The well-formed sequences of UTF-8: the Unicode Standard's Table 3-7, Well-Formed UTF-8 Byte Sequences, row by row, with the code
-- point that Table 3-6 gives the bytes of a row. It says what stands at one place; Text puts the places together. Assumes nothing.
use Rattle.std.specs.Prelude.{ℕ, ◌+◌, ◌*◌, ◌%◌, List, Bool, cond, ◌&&◌, length, get_or, ltb}
use Rattle.base.specs.Tests.{within}

-- what stands at a place: a code point of `size` bytes, or, with size 0, no well-formed sequence
pub record Step : Type 0 where
  pub size : ℕ
  pub point : ℕ

-- Table 3-6 from right to left: the bits of the first byte that are not fixed, then six bits of each other byte
abbrev pub point_of_two : ℕ → ℕ → ℕ
point_of_two a b = a % 32 * 64 + b % 64

abbrev pub point_of_three : ℕ → ℕ → ℕ → ℕ
point_of_three a b c = a % 16 * 4096 + b % 64 * 64 + c % 64

abbrev pub point_of_four : ℕ → ℕ → ℕ → ℕ → ℕ
point_of_four a b c d = a % 8 * 262144 + b % 64 * 4096 + c % 64 * 64 + d % 64

abbrev pub one : ℕ → Step
one a = record { size = 1; point = a }

abbrev pub two : ℕ → ℕ → Step
two a b = record { size = 2; point = point_of_two a b }

abbrev pub three : ℕ → ℕ → ℕ → Step
three a b c = record { size = 3; point = point_of_three a b c }

abbrev pub four : ℕ → ℕ → ℕ → ℕ → Step
four a b c d = record { size = 4; point = point_of_four a b c d }

abbrev pub no_row : Step
no_row = record { size = 0; point = 0 }

-- a byte that continues a sequence
abbrev pub continues : ℕ → Bool
continues b = within 0x80 0xBF b

-- a row of two, three or four bytes: the bounds of the first byte, those of the second, and then the bytes; each byte after the
-- second continues
unfoldable pub is_two : ℕ → ℕ → ℕ → ℕ → ℕ → ℕ → Bool
is_two lo hi lo2 hi2 a b = within lo hi a && within lo2 hi2 b

unfoldable pub is_three : ℕ → ℕ → ℕ → ℕ → ℕ → ℕ → ℕ → Bool
is_three lo hi lo2 hi2 a b c = is_two lo hi lo2 hi2 a b && continues c

unfoldable pub is_four : ℕ → ℕ → ℕ → ℕ → ℕ → ℕ → ℕ → ℕ → Bool
is_four lo hi lo2 hi2 a b c d = is_three lo hi lo2 hi2 a b c && continues d

-- Table 3-7, its rows of four bytes: U+10000..U+3FFFF; U+40000..U+FFFFF; U+100000..U+10FFFF
abbrev pub rows_of_four : ℕ → ℕ → ℕ → ℕ → Step
rows_of_four a b c d =
    cond (is_four 0xF0 0xF0 0x90 0xBF a b c d) (four a b c d)
    (cond (is_four 0xF1 0xF3 0x80 0xBF a b c d) (four a b c d)
    (cond (is_four 0xF4 0xF4 0x80 0x8F a b c d) (four a b c d)
    no_row))

-- its rows of three, before the rest: U+0800..U+0FFF; U+1000..U+CFFF; U+D000..U+D7FF; U+E000..U+FFFF
abbrev pub rows_of_three : ℕ → ℕ → ℕ → Step → Step
rows_of_three a b c rest =
    cond (is_three 0xE0 0xE0 0xA0 0xBF a b c) (three a b c)
    (cond (is_three 0xE1 0xEC 0x80 0xBF a b c) (three a b c)
    (cond (is_three 0xED 0xED 0x80 0x9F a b c) (three a b c)
    (cond (is_three 0xEE 0xEF 0x80 0xBF a b c) (three a b c)
    rest)))

-- the whole table: U+0000..U+007F; U+0080..U+07FF; then those
unfoldable pub row : ℕ → ℕ → ℕ → ℕ → Step
row a b c d =
    cond (within 0x00 0x7F a) (one a)
    (cond (is_two 0xC2 0xDF 0x80 0xBF a b) (two a b)
    (rows_of_three a b c (rows_of_four a b c d)))

-- the byte at a place; past the end 0, which continues nothing
abbrev pub byte_at : List ℕ → ℕ → ℕ
byte_at bytes i = get_or bytes i 0

-- what stands at the place i of a byte string; at its end and past it nothing does
unfoldable pub step_at : List ℕ → ℕ → Step
step_at bytes i =
    cond (ltb i (length bytes))
    (row (byte_at bytes i) (byte_at bytes (i + 1)) (byte_at bytes (i + 2)) (byte_at bytes (i + 3)))
    no_row
