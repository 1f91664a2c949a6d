-- The three calls over a ring, for every input (02, [11]): what each answers and leaves in what is lent. "Putting appends. Flushing writes the
-- oldest records in order, up to a stated number, to the front of the output, the rest staying; their slots are used again, and only putting
-- changes ring bytes." "Refusals: 15 first in every call, exactly for a wrong size, a head not below the size or a count above it; putting 16
-- exactly if the ring holds as many unflushed records as it has slots; flushing 3 if the output can't hold the lesser of the stated number and
-- the count." Opening is handed no head and no count. "Any refusal gives .. counts of 0, and changes nothing lent" (01). Laws: proofs/Laws/Calls.
-- Assumes nothing.
use Rattle.std.specs.Prelude.{ℕ, min, ◌+◌, ◌-◌, ◌*◌, ◌%◌, eqb, ltb, length, Result, Ok, Err, ⊤}
use mathlib.Core.List.{List, [], ◌∷◌, flatten}
use Rattle.base.specs.declared.Refusal.{Refusal}
use Rattle.base.specs.Causes.{given, first_of}
use Rattle.base.specs.Counted.{lent_after}
use Rattle.base.specs.Put.{put}
use Rattle.base.specs.Refusals.{ACCEPTED, number_of}
use Rattle.base.specs.declared.refusals.Cause.TheVariants.{NoRoom, BadRing, RingFull}
use Rattle.ring_meaning.specs.declared.Verdict.{Verdict}
use Rattle.ring_meaning.specs.Record.{RECORD, record_of}
use Rattle.ring_meaning.specs.Ring.{slots, wrong_size, wrong_ring, records_from}
use Rattle.ring_meaning.specs.declared.Kept.{Kept}

-- head and count where no cause is there, else the refusal
unfoldable pub kept_unless : Result ⊤ Refusal → ℕ → ℕ → Result Kept Refusal
kept_unless (Ok u) head count = Ok (record { head = head; count = count })
kept_unless (Err r) head count = Err r

pub record Values : Type 0 where
  pub number : ℕ
  pub place : ℕ
  pub head : ℕ
  pub count : ℕ

-- 01's number and values of each case
unfoldable pub values : Result Kept Refusal → Values
values (Ok k) = record { number = ACCEPTED; place = 0; head = k.head; count = k.count }
values (Err r) = record { number = number_of r.cause; place = r.place; head = 0; count = 0 }

-- opening: nothing in the ring
unfoldable pub open_answer : List ℕ → Result Kept Refusal
open_answer ring = kept_unless (given (wrong_size ring) BadRing 0) 0 0

module _ (ring : List ℕ) (head count : ℕ) where
  -- 15
  unfoldable pub bad_ring : Result ⊤ Refusal
  bad_ring = given (wrong_ring ring head count) BadRing 0

  -- 16
  unfoldable pub full : Result ⊤ Refusal
  full = given (eqb count (slots ring)) RingFull 0

  unfoldable pub put_causes : Result ⊤ Refusal
  put_causes = first_of (bad_ring ∷ full ∷ [])

  -- one record more
  unfoldable pub put_answer : Result Kept Refusal
  put_answer = kept_unless put_causes head (count + 1)

  -- the slot behind the newest record
  abbrev pub free : ℕ
  free = (head + count) % slots ring

  -- the lent ring after the call
  unfoldable pub ring_unless : Result ⊤ Refusal → Verdict → List ℕ
  ring_unless (Ok u) v = put ring (RECORD * free) (record_of v)
  ring_unless (Err r) v = ring

  unfoldable pub ring_after : Verdict → List ℕ
  ring_after v = ring_unless put_causes v

  -- flushing up to `most` records into an output of some room
  module _ (most : ℕ) where
    -- 3
    unfoldable pub no_room : ℕ → Result ⊤ Refusal
    no_room room = given (ltb room (RECORD * min most count)) NoRoom 0

    unfoldable pub flush_causes : ℕ → Result ⊤ Refusal
    flush_causes room = first_of (bad_ring ∷ no_room room ∷ [])

    -- so many records fewer, and the oldest so many slots further
    unfoldable pub flush_answer : ℕ → Result Kept Refusal
    flush_answer room = kept_unless (flush_causes room) ((head + min most count) % slots ring) (count - min most count)

    -- the lent output after the call
    unfoldable pub out_after : List ℕ → List ℕ
    out_after out = lent_after (flush_causes (length out)) (flatten (records_from ring head (min most count))) out
