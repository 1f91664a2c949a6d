-- The numbers below n that pass a test, rising: the records of a table that are candidates, or kept.
-- That these are all of them, and rise, stands in proofs/Laws/Chosen.
-- Assumes nothing.
use Rattle.std.specs.Prelude.{ℕ, zero, suc, ◌+◌, Bool, cond, List, [], ◌∷◌}

-- of the n numbers from i on
unfoldable pub passing_from : (ℕ → Bool) → ℕ → ℕ → List ℕ
passing_from test i zero = []
passing_from test i (suc n) = cond (test i) (i ∷ passing_from test (i + 1) n) (passing_from test (i + 1) n)

abbrev pub passing : (ℕ → Bool) → ℕ → List ℕ
passing test n = passing_from test 0 n
