-- A number as text: eight upper-case hexadecimal digits.
-- Assumes nothing.
use Rattle.std.specs.Prelude.{ℕ, ◌+◌, ◌-◌, ◌/◌, ◌%◌, ◌^◌, cond, List, [], ◌∷◌, ltb}
use Rattle.pieces.specs.Numerals.{CODE_0}

-- the ASCII code of "A"
abbrev pub CODE_A : ℕ
CODE_A = 0x41

-- the hexadecimal digit of a number below 16
unfoldable pub hex_digit : ℕ → ℕ
hex_digit d = cond (ltb d 10) (CODE_0 + d) (CODE_A + (d - 10))

-- the hexadecimal digit of this weight, a power of 16
unfoldable pub hex_at : ℕ → ℕ → ℕ
hex_at n weight = hex_digit (n / weight % 16)

-- the eight hexadecimal digits of a u32, the one of most weight first
unfoldable pub hex : ℕ → List ℕ
hex n =
    hex_at n (16 ^ 7)
    ∷ hex_at n (16 ^ 6)
    ∷ hex_at n (16 ^ 5)
    ∷ hex_at n (16 ^ 4)
    ∷ hex_at n (16 ^ 3)
    ∷ hex_at n (16 ^ 2)
    ∷ hex_at n 16
    ∷ hex_at n 1
    ∷ []
