-- What writing UTF-8 answers, and what it leaves in the lent output, for every input (02 [3], "UTF-8 out": "Shortest form only, by the Unicode
-- Standard"; "Bytes after the output stay. Refusals: 1 for over 65,536 code points, then 12 for a number that is no scalar value, at its index, then
-- 3"). The bytes of a text are those of Table 3-6 (`encode_all`), which has one form for each scalar value, the shortest. Assumes nothing.
use Rattle.std.specs.Prelude.{ℕ, List, [], ◌∷◌, not, length, get_or, ltb, Result, ⊤}
use Rattle.base.specs.declared.Refusal.{Refusal}
use Rattle.base.specs.Causes.{given, first_of}
use Rattle.base.specs.Counted.{count_unless, lent_after}
use Rattle.base.specs.First.{first}
use Rattle.base.specs.Limits.{LONGEST_TEXT}
use Rattle.base.specs.declared.refusals.Cause.TheVariants.{TooLong, NoRoom, NotScalar}
use Rattle.base.specs.Tests.{scalar}
use Rattle.utf8_table.specs.Encoding.{encode_all}

-- "a number that is no scalar value, at its index"; the number of code points where there is none
unfoldable pub ill_at : List ℕ → ℕ
ill_at text = first (λ i. not (scalar (get_or text i 0))) (length text)

-- 1: "over 65,536 code points"
unfoldable pub too_long : List ℕ → Result ⊤ Refusal
too_long text = given (ltb LONGEST_TEXT (length text)) TooLong 0

-- 12: "a number that is no scalar value, at its index"
unfoldable pub not_scalar : List ℕ → Result ⊤ Refusal
not_scalar text = given (ltb (ill_at text) (length text)) NotScalar (ill_at text)

-- 3: an output that has fewer places than the text has bytes
unfoldable pub no_room : List ℕ → ℕ → Result ⊤ Refusal
no_room text room = given (ltb room (length (encode_all text))) NoRoom 0

-- 1, 12, 3, in a call whose output has this room
unfoldable pub causes : List ℕ → ℕ → Result ⊤ Refusal
causes text room = first_of (too_long text ∷ not_scalar text ∷ no_room text room ∷ [])

-- how many bytes were written
unfoldable pub answer : List ℕ → ℕ → Result ℕ Refusal
answer text room = count_unless (causes text room) (length (encode_all text))

-- the lent output after the call: the bytes of the text where it was accepted, else as it was
unfoldable pub out_after : List ℕ → List ℕ → List ℕ
out_after text out = lent_after (causes text (length out)) (encode_all text) out
