-- "The reader fills the first places of its output, one per code point; the rest stays, as in every lent output" (01): what a lent list holds
-- once a list was put into it from a place on. What stands before it and behind it stays.
-- Assumes nothing.
use Rattle.std.specs.Prelude.{ℕ, ◌+◌, List, ◌++◌, length, take, drop}

unfoldable pub put : {A : Type 0} → List A → ℕ → List A → List A
put out at l = take at out ++ (l ++ drop (at + length l) out)
