-- A call "refuses exactly for" its causes: each cause is there or not (`given`), with 01's number and place, and of those that are there the
-- first in 01's order is given (`first_of`). "A place not named is 0."
-- Assumes nothing.
use Rattle.std.specs.Prelude.{ℕ, Bool, cond, List, [], ◌∷◌, Result, Ok, Err, ⊤}
use Rattle.base.specs.declared.refusals.Cause.{Cause}
use Rattle.base.specs.declared.Refusal.{Refusal}

unfoldable pub refused_at : {T : Type 0} → Cause → ℕ → Result T Refusal
refused_at cause place = Err (record { cause = cause; place = place })

-- a refusal where the test holds
unfoldable pub given : Bool → Cause → ℕ → Result ⊤ Refusal
given b cause place = cond b (refused_at cause place) (Ok tt)

-- the first cause that is there
unfoldable pub first_of : List (Result ⊤ Refusal) → Result ⊤ Refusal
first_of [] = Ok tt
first_of (Ok u ∷ cs) = first_of cs
first_of (Err r ∷ cs) = Err r
