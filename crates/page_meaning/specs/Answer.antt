-- What reading and writing under a page answer, and what they leave in the lent output, for every input (02 [1], "Refusals: 1 for over 65,536 bytes
-- or code points; 10 for a bad page, place the first bad entry, or 0 if it hasn't 128; 2 for an unused byte, at its index; 11 for a code point the
-- page lacks, at its index; 3 last"). Assumes nothing.
use Rattle.std.specs.Prelude.{ℕ, List, [], ◌∷◌, not, length, eqb, ltb, Result, ⊤}
use Rattle.base.specs.declared.Refusal.{Refusal}
use Rattle.base.specs.Causes.{given, first_of}
use Rattle.base.specs.Counted.{count_unless, lent_after}
use Rattle.base.specs.Limits.{LONGEST_TEXT}
use Rattle.base.specs.declared.refusals.Cause.TheVariants.{TooLong, IllFormed, NoRoom, BadPage, NotOnPage}
use Rattle.page_meaning.specs.Page.{PAGE_ENTRIES, first_bad, unused_at, lacking_at, points_of, bytes_of}

-- 1: "over 65,536 bytes or code points"
unfoldable pub too_long : List ℕ → Result ⊤ Refusal
too_long l = given (ltb LONGEST_TEXT (length l)) TooLong 0

-- 10: "a bad page, place the first bad entry, or 0 if it hasn't 128"
unfoldable pub bad_page : List ℕ → Result ⊤ Refusal
bad_page page =
    first_of (
    given (not (eqb (length page) PAGE_ENTRIES)) BadPage 0
    ∷ given (ltb (first_bad page) PAGE_ENTRIES) BadPage (first_bad page)
    ∷ [])

-- 2: "an unused byte, at its index"
unfoldable pub unused_byte : List ℕ → List ℕ → Result ⊤ Refusal
unused_byte page bytes = given (ltb (unused_at page bytes) (length bytes)) IllFormed (unused_at page bytes)

-- 11: "a code point the page lacks, at its index"
unfoldable pub not_on_page : List ℕ → List ℕ → Result ⊤ Refusal
not_on_page page text = given (ltb (lacking_at page text) (length text)) NotOnPage (lacking_at page text)

-- 3: an output that has fewer places than there are bytes or code points
unfoldable pub no_room : List ℕ → ℕ → Result ⊤ Refusal
no_room l room = given (ltb room (length l)) NoRoom 0

-- reading, in a call whose output has this room
unfoldable pub read_causes : List ℕ → List ℕ → ℕ → Result ⊤ Refusal
read_causes page bytes room = first_of (too_long bytes ∷ bad_page page ∷ unused_byte page bytes ∷ no_room bytes room ∷ [])

unfoldable pub read_answer : List ℕ → List ℕ → ℕ → Result ℕ Refusal
read_answer page bytes room = count_unless (read_causes page bytes room) (length bytes)

unfoldable pub read_into : List ℕ → List ℕ → List ℕ → List ℕ
read_into page bytes out = lent_after (read_causes page bytes (length out)) (points_of page bytes) out

-- writing
unfoldable pub write_causes : List ℕ → List ℕ → ℕ → Result ⊤ Refusal
write_causes page text room = first_of (too_long text ∷ bad_page page ∷ not_on_page page text ∷ no_room text room ∷ [])

unfoldable pub write_answer : List ℕ → List ℕ → ℕ → Result ℕ Refusal
write_answer page text room = count_unless (write_causes page text room) (length text)

unfoldable pub write_into : List ℕ → List ℕ → List ℕ → List ℕ
write_into page text out = lent_after (write_causes page text (length out)) (bytes_of page text) out
