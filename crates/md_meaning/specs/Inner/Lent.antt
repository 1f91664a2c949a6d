-- The causes of refusal that lie in what is lent beside a text: of scoring's order "1, 4, 5, 7, 6" the three in the middle. 5 and its place are
-- what the class table's check says; 4 and 7 have place 0.
-- Assumes nothing.
use Rattle.std.specs.Prelude.{ℕ, List, [], ◌∷◌, Float, Result, ⊤}
use Rattle.base.specs.declared.Refusal.{Refusal}
use Rattle.base.specs.Causes.{first_of}
use Rattle.classes.specs.Check.{bad_classes}
use Rattle.classes.specs.Pairs.{bad_pairs}
use Rattle.ratio.specs.Finite.{not_finite}

-- 5, 7
abbrev pub of_tables : List ℕ → List ℕ → List (Result ⊤ Refusal)
of_tables classes pairs = bad_classes classes ∷ bad_pairs pairs ∷ []

-- 4, 5, 7
abbrev pub of_lent : Float → List ℕ → List ℕ → List (Result ⊤ Refusal)
of_lent threshold classes pairs = not_finite threshold ∷ bad_classes classes ∷ bad_pairs pairs ∷ []

unfoldable pub bad_tables : List ℕ → List ℕ → Result ⊤ Refusal
bad_tables classes pairs = first_of (of_tables classes pairs)

unfoldable pub bad_lent : Float → List ℕ → List ℕ → Result ⊤ Refusal
bad_lent threshold classes pairs = first_of (of_lent threshold classes pairs)
