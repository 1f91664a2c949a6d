-- A code page (02 [1]): "a lent table of 128 u16 for bytes 80 to FF, FFFF meaning unused; bytes below 80 stand for themselves"; which of its entries
-- are bad; the code point of a byte, the byte of a code point, and those of a whole text. Nothing here says that the page is good.
-- Assumes nothing.
use Rattle.std.specs.Prelude.{ℕ, ◌-◌, Bool, cond, not, ◌&&◌, ◌||◌, List, map, length, get_or, take, eqb, ltb}
use Rattle.base.specs.Among.{among}
use Rattle.base.specs.First.{first}
use Rattle.base.specs.Limits.{SURROGATE_FIRST, SURROGATE_LAST}
use Rattle.base.specs.Tests.{within}

-- "128 u16"
abbrev pub PAGE_ENTRIES : ℕ
PAGE_ENTRIES = 128

-- "for bytes 80 to FF": the first byte that has an entry, and how many bytes there are
abbrev pub FIRST_HIGH : ℕ
FIRST_HIGH = 0x80

abbrev pub BYTES : ℕ
BYTES = 256

-- "FFFF meaning unused"
abbrev pub UNUSED : ℕ
UNUSED = 0xFFFF

-- past its end a page has no entry that is used
abbrev pub entry : List ℕ → ℕ → ℕ
entry page i = get_or page i UNUSED

-- "used entries at least 0080, distinct, no surrogate"; 01: "Of two clashing entries the later is bad, in every table"
unfoldable pub bad_entry : List ℕ → ℕ → Bool
bad_entry page i =
    not (eqb (entry page i) UNUSED)
    && (ltb (entry page i) FIRST_HIGH || among (entry page i) (take i page) || within SURROGATE_FIRST SURROGATE_LAST (entry page i))

-- "the first bad entry"; 128 where none is bad
unfoldable pub first_bad : List ℕ → ℕ
first_bad page = first (bad_entry page) PAGE_ENTRIES

-- the code point of a byte: "bytes below 80 stand for themselves", the others for their entry; UNUSED where there is none
unfoldable pub point_of : List ℕ → ℕ → ℕ
point_of page b = cond (ltb b FIRST_HIGH) b (entry page (b - FIRST_HIGH))

-- the byte of a code point: that which stands for it; 256 where none does
unfoldable pub byte_of : List ℕ → ℕ → ℕ
byte_of page p = first (λ b. eqb (point_of page b) p) BYTES

-- "a code point the page lacks". FFFF means unused and is none of its code points, though it may stand in it
unfoldable pub lacks : List ℕ → ℕ → Bool
lacks page p = eqb p UNUSED || eqb (byte_of page p) BYTES

-- "an unused byte, at its index"; the number of bytes where there is none
unfoldable pub unused_at : List ℕ → List ℕ → ℕ
unused_at page bytes = first (λ i. eqb (point_of page (get_or bytes i 0)) UNUSED) (length bytes)

-- "a code point the page lacks, at its index"; the number of code points where there is none
unfoldable pub lacking_at : List ℕ → List ℕ → ℕ
lacking_at page text = first (λ i. lacks page (get_or text i 0)) (length text)

abbrev pub points_of : List ℕ → List ℕ → List ℕ
points_of page bytes = map (point_of page) bytes

abbrev pub bytes_of : List ℕ → List ℕ → List ℕ
bytes_of page text = map (byte_of page) text
