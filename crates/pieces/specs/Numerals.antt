-- Numbers as text: decimal with no zero in front. The laws stand in proofs/Laws/Numerals.
-- Assumes nothing.
use Rattle.std.specs.Prelude.{ℕ, zero, suc, ◌+◌, ◌/◌, ◌%◌, cond, List, [], ◌∷◌, ◌++◌, ltb}

-- the ASCII code of "0"
abbrev pub CODE_0 : ℕ
CODE_0 = 0x30

-- no u32 has more decimal digits
abbrev pub MOST_DIGITS : ℕ
MOST_DIGITS = 10

-- n in decimal, in at most so many digits: one digit, or the digits of the tens and then that of the ones
unfoldable pub decimal_in : ℕ → ℕ → List ℕ
decimal_in zero n = []
decimal_in (suc most) n = cond (ltb n 10) ((CODE_0 + n) ∷ []) (decimal_in most (n / 10) ++ ((CODE_0 + n % 10) ∷ []))

unfoldable pub decimal : ℕ → List ℕ
decimal n = decimal_in MOST_DIGITS n
