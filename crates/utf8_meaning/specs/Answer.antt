-- What reading UTF-8 answers, and what it leaves in the lent output, for every input (01, "Refusal numbers": "Order: reading 1 (bytes),
-- 2, 1 (code points), 3"; "The reader fills the first places of its output, one per code point; the rest stays"; "Any refusal gives ..
-- counts of 0, and changes nothing lent"). Assumes nothing.
use Rattle.std.specs.Prelude.{ℕ, List, [], ◌∷◌, not, length, ltb, Result, ⊤}
use Rattle.base.specs.declared.Refusal.{Refusal}
use Rattle.base.specs.Causes.{given, first_of}
use Rattle.base.specs.Counted.{count_unless, lent_after}
use Rattle.base.specs.Limits.{LONGEST_BYTES, LONGEST_TEXT}
use Rattle.base.specs.declared.refusals.Cause.TheVariants.{TooLong, IllFormed, NoRoom}
use Rattle.utf8_meaning.specs.Text.{text_of, fault_at, well_formed}

-- 1: "over 262,144 bytes"
unfoldable pub many_bytes : List ℕ → Result ⊤ Refusal
many_bytes bytes = given (ltb LONGEST_BYTES (length bytes)) TooLong 0

-- 2: "ill-formed UTF-8", at the "first byte of the bad sequence"
unfoldable pub ill_formed : List ℕ → Result ⊤ Refusal
ill_formed bytes = given (not (well_formed bytes)) IllFormed (fault_at bytes)

-- 1: "or 65,536 code points"
unfoldable pub many_points : List ℕ → Result ⊤ Refusal
many_points bytes = given (ltb LONGEST_TEXT (length (text_of bytes))) TooLong 0

-- 3: "lent output or work area too short"
unfoldable pub no_room : List ℕ → ℕ → Result ⊤ Refusal
no_room bytes room = given (ltb room (length (text_of bytes))) NoRoom 0

-- 1 (bytes), 2, 1 (code points), 3, in a call whose output has this room
unfoldable pub causes : List ℕ → ℕ → Result ⊤ Refusal
causes bytes room = first_of (many_bytes bytes ∷ ill_formed bytes ∷ many_points bytes ∷ no_room bytes room ∷ [])

unfoldable pub answer : List ℕ → ℕ → Result ℕ Refusal
answer bytes room = count_unless (causes bytes room) (length (text_of bytes))

-- the lent output after the call: the text where the bytes were accepted, else as it was
unfoldable pub out_after : List ℕ → List ℕ → List ℕ
out_after bytes out = lent_after (causes bytes (length out)) (text_of bytes) out
