-- Words of inner contracts, beside Counted: `cause_of`. No public promise rests on them.
-- Assumes nothing.
use Rattle.std.specs.Prelude.{ℕ, Result, Ok, Err, ⊤}
use Rattle.base.specs.declared.Refusal.{Refusal}

-- the cause that an answer tells
unfoldable pub cause_of : Result ℕ Refusal → Result ⊤ Refusal
cause_of (Ok n) = Ok tt
cause_of (Err r) = Err r
