-- "The ring is lent, 1 to 2,048 records; head and count are kept with it" (02, [11]). It is bytes; head is the slot of the oldest record, and the records
-- that it holds stand from there on, one slot after the other, going on at the first slot behind the last one.
-- Assumes nothing.
use Rattle.std.specs.Prelude.{ℕ, zero, suc, ◌+◌, ◌*◌, ◌/◌, ◌%◌, Bool, not, ◌||◌, List, [], ◌∷◌, eqb, ltb, length, take, drop}
use Rattle.ring_meaning.specs.Record.{RECORD}

-- "1 to 2,048 records"
abbrev pub MOST_SLOTS : ℕ
MOST_SLOTS = 2048

-- the slots of a ring
abbrev pub slots : List ℕ → ℕ
slots ring = length ring / RECORD

-- "a wrong size": not whole records, none, or too many
unfoldable pub wrong_size : List ℕ → Bool
wrong_size ring = not (eqb (length ring % RECORD) 0) || (ltb (slots ring) 1 || ltb MOST_SLOTS (slots ring))

-- "a wrong size, a head not below the size or a count above it"
unfoldable pub wrong_ring : List ℕ → ℕ → ℕ → Bool
wrong_ring ring head count = wrong_size ring || (not (ltb head (slots ring)) || ltb (slots ring) count)

-- the bytes of a slot
unfoldable pub slot : List ℕ → ℕ → List ℕ
slot ring i = take RECORD (drop (RECORD * i) ring)

-- the first n records from a slot on, a slot's number taken modulo the size
unfoldable pub records_from : List ℕ → ℕ → ℕ → List (List ℕ)
records_from ring at zero = []
records_from ring at (suc n) = slot ring (at % slots ring) ∷ records_from ring (at + 1) n
