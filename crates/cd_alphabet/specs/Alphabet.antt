-- "Alphabet search: distinct shared letters over distinct alphabet letters, at least 1/5" (01, Layers and rankings). Not here: which records are
-- searched, and the order of those found (Candidates).
-- Assumes nothing.
use Rattle.std.specs.Prelude.{ℕ, Bool, cond, List, [], ◌∷◌, length}
use Rattle.base.specs.Among.{among}
use Rattle.ratio.specs.Fraction.{at_least}
use Rattle.ratio.specs.declared.Fraction.{Fraction}

-- the distinct letters of a list: each of them once
unfoldable pub distinct : List ℕ → List ℕ
distinct [] = []
distinct (x ∷ l) = cond (among x l) (distinct l) (x ∷ distinct l)

-- those of a list that the layer has too
unfoldable pub shared : List ℕ → List ℕ → List ℕ
shared layer [] = []
shared layer (x ∷ l) = cond (among x layer) (x ∷ shared layer l) (shared layer l)

-- "distinct shared letters over distinct alphabet letters"
unfoldable pub alphabet_share : List ℕ → List ℕ → Fraction
alphabet_share layer alphabet = record { num = length (shared layer (distinct alphabet)); den = length (distinct alphabet) }

-- "at least 1/5"
unfoldable pub is_candidate : Fraction → Bool
is_candidate f = at_least 1 5 f
