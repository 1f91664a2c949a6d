-- An answer that is a count or a refusal; what a refusal leaves of a lent output; and 01's number and values of each case ("When an answer is
-- an enum, the promises use a definition that gives this paper's number and values for each case of the enum").
-- Assumes nothing.
use Rattle.std.specs.Prelude.{ℕ, List, Result, Ok, Err, ⊤}
use Rattle.base.specs.declared.Refusal.{Refusal}
use Rattle.base.specs.Put.{put}
use Rattle.base.specs.Refusals.{ACCEPTED, number_of}

-- the count where no cause is there, else the refusal
unfoldable pub count_unless : Result ⊤ Refusal → ℕ → Result ℕ Refusal
count_unless (Ok u) n = Ok n
count_unless (Err r) n = Err r

-- a lent output after the call: the list stands in its first places and the rest stays; "Any refusal .. changes nothing lent"
unfoldable pub lent_after : {A : Type 0} → Result ⊤ Refusal → List A → List A → List A
lent_after (Ok u) l out = put out 0 l
lent_after (Err r) l out = out

pub record Values : Type 0 where
  pub number : ℕ
  pub place : ℕ
  pub count : ℕ

-- "Any refusal gives .. counts of 0"
unfoldable pub values : Result ℕ Refusal → Values
values (Ok n) = record { number = ACCEPTED; place = 0; count = n }
values (Err r) = record { number = number_of r.cause; place = r.place; count = 0 }
