-- The encoding of a scalar value and of a text in UTF-8: the Unicode Standard's Table 3-6, UTF-8 Bit Distribution. A code point's bits
-- are dealt out to the bytes, six to each byte after the first: c / 64 is c without its last six bits, and c % 64 is those six. It does
-- not say what a reader does with bytes that are no encoding (WellFormed, Text). Assumes nothing.
use Rattle.std.specs.Prelude.{ℕ, ◌+◌, ◌/◌, ◌%◌, List, [], ◌∷◌, ◌++◌, Bool, true, cond, ◌&&◌, ltb}
use Rattle.base.specs.Tests.{scalar}

-- Table 3-6, row by row: up to U+007F one byte, up to U+07FF two, up to U+FFFF three, up to U+10FFFF four
unfoldable pub encode : ℕ → List ℕ
encode c =
    cond (ltb c 0x80) (c ∷ [])
    (cond (ltb c 0x800) ((0xC0 + c / 64) ∷ (0x80 + c % 64) ∷ [])
    (cond (ltb c 0x10000) ((0xE0 + c / 4096) ∷ (0x80 + c / 64 % 64) ∷ (0x80 + c % 64) ∷ [])
    ((0xF0 + c / 262144) ∷ (0x80 + c / 4096 % 64) ∷ (0x80 + c / 64 % 64) ∷ (0x80 + c % 64) ∷ [])))

-- the bytes of a text: the encodings of its scalar values, one after the other
unfoldable pub encode_all : List ℕ → List ℕ
encode_all [] = []
encode_all (c ∷ cs) = encode c ++ encode_all cs

-- a text has scalar values only
unfoldable pub scalars : List ℕ → Bool
scalars [] = true
scalars (c ∷ cs) = scalar c && scalars cs
