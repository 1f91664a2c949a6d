-- Words of inner contracts, beside Answer: `measured`, `in_bytes`, `unreadable`, `count_utf8`. No public promise rests on them.
-- Assumes nothing.
use Rattle.std.specs.Prelude.{ℕ, List, [], ◌∷◌, cond, length, Result, Ok, Err, ⊤}
use Rattle.base.specs.declared.Refusal.{Refusal}
use Rattle.base.specs.Causes.{first_of}
use Rattle.base.specs.Counted.{count_unless}
use Rattle.utf8_meaning.specs.Text.{text_of, fault_at, well_formed}
use Rattle.utf8_meaning.specs.Answer.{many_bytes, ill_formed, many_points}

-- the number of code points of well-formed bytes, or the place of the first fault
unfoldable pub measured : List ℕ → Result ℕ ℕ
measured bytes = cond (well_formed bytes) (Ok (length (text_of bytes))) (Err (fault_at bytes))

-- the causes that lie in the bytes: 1 (bytes), 2, 1 (code points)
abbrev pub in_bytes : List ℕ → List (Result ⊤ Refusal)
in_bytes bytes = many_bytes bytes ∷ ill_formed bytes ∷ many_points bytes ∷ []

unfoldable pub unreadable : List ℕ → Result ⊤ Refusal
unreadable bytes = first_of (in_bytes bytes)

-- the number of code points, where they go nowhere
unfoldable pub count_utf8 : List ℕ → Result ℕ Refusal
count_utf8 bytes = count_unless (unreadable bytes) (length (text_of bytes))
