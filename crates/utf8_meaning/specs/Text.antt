-- The text of a byte string, by the Unicode Standard's Table 3-7: from the front, the code point of each well-formed sequence, up to the
-- end or to the first place where none stands. That place is 01's "first byte of the bad sequence". Assumes nothing.
use Rattle.std.specs.Prelude.{ℕ, zero, suc, ◌+◌, List, [], ◌∷◌, ◌++◌, Bool, cond, length, eqb}
use Rattle.utf8_table.specs.WellFormed.{step_at}

-- code points, and the place where they end
pub record Reading : Type 0 where
  pub text : List ℕ
  pub stop : ℕ

abbrev pub ended : ℕ → Reading
ended i = record { text = []; stop = i }

-- code points before a reading
abbrev pub after : List ℕ → Reading → Reading
after ps r = record { text = ps ++ r.text; stop = r.stop }

-- what is read from the place i on, in at most n sequences
unfoldable pub steps : ℕ → List ℕ → ℕ → Reading
steps zero bytes i = ended i
steps (suc n) bytes i =
    cond (eqb (step_at bytes i).size 0) (ended i)
    (after ((step_at bytes i).point ∷ []) (steps n bytes (i + (step_at bytes i).size)))

-- a sequence has a byte or more, so that as many sequences as there are bytes reach the end
unfoldable pub reading : List ℕ → Reading
reading bytes = steps (length bytes) bytes 0

-- the code points up to the first fault; of well-formed bytes, all
abbrev pub text_of : List ℕ → List ℕ
text_of bytes = (reading bytes).text

-- the place of the first fault; of well-formed bytes, their number
abbrev pub fault_at : List ℕ → ℕ
fault_at bytes = (reading bytes).stop

unfoldable pub well_formed : List ℕ → Bool
well_formed bytes = eqb (fault_at bytes) (length bytes)
