-- The letters of a language record as a list (01, "Tables": "letters by popularity"): its used slots, in their order.
-- Assumes nothing.
use Rattle.std.specs.Prelude.{ℕ, zero, suc, ◌+◌, List, [], ◌∷◌}
use Rattle.cd_languages.specs.Languages.{letter_count, slot_at}

-- f at n indices, from i on
unfoldable pub listed : (ℕ → ℕ) → ℕ → ℕ → List ℕ
listed f i zero = []
listed f i (suc n) = f i ∷ listed f (i + 1) n

unfoldable pub letters_of : List ℕ → ℕ → List ℕ
letters_of t i = listed (slot_at t i) 0 (letter_count t i)
