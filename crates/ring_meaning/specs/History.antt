-- "From opening on, each call getting ring, head and count as the last left them, accepted puts equal flushed records plus those in the ring, by
-- the history of calls, and flushed records come out in putting order, bytes the same" (02, [11]). A history is a list of calls, each with its
-- answer and what it left in what was lent; refused calls may stand in it. What is said of it is the law `history` (proofs/Laws/History): the
-- accepted puts, in their order, are the flushed records, in theirs, and then those in the ring. So none is lost, none comes out twice, and each has
-- the bytes that were put.
-- Assumes nothing.
use Rattle.base.specs.declared.Refusal.{Refusal}
use Rattle.std.specs.Prelude.{ℕ, zero, suc, ◌-◌, ◌≡◌, List, [], ◌∷◌, ◌++◌, length, take, drop, Result, Ok, Err}
use Rattle.ring_meaning.specs.declared.Kept.{Kept}
use Rattle.ring_meaning.specs.declared.Verdict.{Verdict}
use Rattle.ring_meaning.specs.Record.{RECORD, record_of}
use Rattle.ring_meaning.specs.Ring.{records_from}
use Rattle.ring_meaning.specs.Calls.{put_answer, ring_after, flush_answer, out_after}

-- what the caller keeps between two calls
pub record State : Type 0 where
  pub ring : List ℕ
  pub head : ℕ
  pub count : ℕ

-- a call and its answer: a put, with the verdict and the ring as it was left; a flush, with the stated number and the output before and after
pub data Event : Type 0 where
  Put : (verdict : Verdict) (left : List ℕ) → Result Kept Refusal → Event
  Flush : (most : ℕ) (out left : List ℕ) → Result Kept Refusal → Event

-- "as the last left them": the ring as it stands; head and count of an accepted call's answer, the caller's own where the call was refused
unfoldable pub keeping : State → List ℕ → Result Kept Refusal → State
keeping s ring (Ok k) = record { ring = ring; head = k.head; count = k.count }
keeping s ring (Err r) = record { ring = ring; head = s.head; count = s.count }

unfoldable pub next : State → Event → State
next s (Put v left a) = keeping s left a
next s (Flush most out left a) = keeping s s.ring a

-- the answer and what was left are the call's
unfoldable pub Answered : State → Event → Type 0
Answered s (Put v left a) =
    (a ≡ put_answer s.ring s.head s.count) × (left ≡ ring_after s.ring s.head s.count v)
Answered s (Flush most out left a) =
    (a ≡ flush_answer s.ring s.head s.count most (length out)) × (left ≡ out_after s.ring s.head s.count most out)

-- a list of calls and answers, each handed what the last one left
unfoldable pub History : State → List Event → Type 0
History s [] = Unit {0}
History s (e ∷ es) = Answered s e × History (next s e) es

-- what is kept behind the last call
unfoldable pub lastly : State → List Event → State
lastly s [] = s
lastly s (e ∷ es) = lastly (next s e) es

-- where a history begins: the answer of an accepted opening
unfoldable pub opened : List ℕ → Kept → State
opened ring k = record { ring = ring; head = k.head; count = k.count }

-- the records of the accepted puts
unfoldable pub put_in : Event → List (List ℕ)
put_in (Put v left (Ok k)) = record_of v ∷ []
put_in (Put v left (Err r)) = []
put_in (Flush most out left a) = []

unfoldable pub puts : List Event → List (List ℕ)
puts [] = []
puts (e ∷ es) = put_in e ++ puts es

-- the first n records that bytes are
unfoldable pub first_records : List ℕ → ℕ → List (List ℕ)
first_records bytes zero = []
first_records bytes (suc n) = take RECORD bytes ∷ first_records (drop RECORD bytes) n

-- the records that came out: as many as the count fell by, at the front of the output
unfoldable pub came_out : State → Event → List (List ℕ)
came_out s (Put v left a) = []
came_out s (Flush most out left (Ok k)) = first_records left (s.count - k.count)
came_out s (Flush most out left (Err r)) = []

unfoldable pub flushed : State → List Event → List (List ℕ)
flushed s [] = []
flushed s (e ∷ es) = came_out s e ++ flushed (next s e) es

-- the records in the ring, the oldest first
unfoldable pub in_ring : State → List (List ℕ)
in_ring s = records_from s.ring s.head s.count
