-- The lines that bytes are. A line ends at 0A, which is no part of it; a last line without 0A counts; no bytes are no lines. The laws stand in
-- proofs/Laws/Lines; what they say of the bytes, in LinesBack.
-- Assumes nothing.
use Rattle.std.specs.Prelude.{ℕ, cond, List, [], ◌∷◌, eqb}
use Rattle.base.specs.Limits.{NEWLINE}

-- a byte at the front of the first line; where there is no line it makes one
abbrev pub with_byte : ℕ → List (List ℕ) → List (List ℕ)
with_byte b [] = (b ∷ []) ∷ []
with_byte b (l ∷ ls) = (b ∷ l) ∷ ls

unfoldable pub lines_of : List ℕ → List (List ℕ)
lines_of [] = []
lines_of (b ∷ bs) = cond (eqb b NEWLINE) ([] ∷ lines_of bs) (with_byte b (lines_of bs))
