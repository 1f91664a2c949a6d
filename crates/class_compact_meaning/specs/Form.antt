-- The compact form of a class table (02 [9]): "16-byte records without header: first u32, last u32, flags u32, range u16, and a u16 that is 0 or the
-- 1-based place of a (base, lower) pair of u32 in a second lent list of 8-byte records". That list is called `letters` here, since the pair table of
-- ranges is `pairs`. When a table of this form is good stands in Check.
-- Assumes nothing.
use Rattle.std.specs.Prelude.{ℕ, zero, suc, ◌+◌, ◌*◌, ◌/◌, ◌<◌, List, [], ◌∷◌, ◌++◌, length, get_or}
use Rattle.base.specs.LittleEndian.{le16, le32}

-- bytes of a compact record
abbrev pub COMPACT_RECORD : ℕ
COMPACT_RECORD = 16

-- bytes of first, last, flags and range, which are the same in either form
abbrev pub SHARED_BYTES : ℕ
SHARED_BYTES = 14

-- bytes of the place
abbrev pub PLACE_BYTES : ℕ
PLACE_BYTES = 2

-- bytes of a record of letters
abbrev pub LETTERS_RECORD : ℕ
LETTERS_RECORD = 8

-- where the lower-case letter stands in it, the base at its front
abbrev pub LOWER_AT : ℕ
LOWER_AT = 4

-- where base and lower stand in a record of 24 bytes
abbrev pub LETTERS_AT : ℕ
LETTERS_AT = 16

-- how many compact records there are
abbrev pub compact_records : List ℕ → ℕ
compact_records c = length c / COMPACT_RECORD

-- how many letters there are
abbrev pub letters_in : List ℕ → ℕ
letters_in l = length l / LETTERS_RECORD

-- the u16 of the record i: "0 or the 1-based place of a (base, lower) pair"
unfoldable pub place_at : List ℕ → ℕ → ℕ
place_at c i = le16 c (i * COMPACT_RECORD + SHARED_BYTES)

-- the letters k, counted from 0: base and lower
unfoldable pub base_at : List ℕ → ℕ → ℕ
base_at l k = le32 l (k * LETTERS_RECORD)

unfoldable pub lower_at : List ℕ → ℕ → ℕ
lower_at l k = le32 l (k * LETTERS_RECORD + LOWER_AT)

-- a list of bytes, as every lent one is: each element is below 256
abbrev pub Bytes : List ℕ → Type 0
Bytes t = (k : ℕ) → get_or t k 0 < 256

-- n bytes of a table from a place on, 0 past its end
unfoldable pub bytes_from : List ℕ → ℕ → ℕ → List ℕ
bytes_from t at zero = []
bytes_from t at (suc n) = get_or t at 0 ∷ bytes_from t (at + 1) n

-- the lists f 0, f 1 and so on, n of them, one behind the other
unfoldable pub joined : (ℕ → List ℕ) → ℕ → List ℕ
joined f zero = []
joined f (suc n) = joined f n ++ f n
