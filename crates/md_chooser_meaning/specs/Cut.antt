-- A text cut before its trailing newlines (01: "the part before its trailing U+000A run"). The laws stand in proofs/Laws/Cut.
-- Assumes nothing.
use Rattle.std.specs.Prelude.{ℕ, Bool, true, cond, ◌&&◌, List, [], ◌∷◌, eqb}
use Rattle.base.specs.Limits.{NEWLINE}

abbrev pub only_newlines : List ℕ → Bool
only_newlines [] = true
only_newlines (x ∷ xs) = eqb x NEWLINE && only_newlines xs

unfoldable pub cut : List ℕ → List ℕ
cut [] = []
cut (x ∷ xs) = cond (only_newlines (x ∷ xs)) [] (x ∷ cut xs)
