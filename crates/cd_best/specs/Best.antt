-- "The best score per language number stays" (01, Layers and rankings): of the kept matches, which languages have one (`has_match`), and the best score
-- of each (`best_score`). A language is told by the first record with its number. A score is finite and has no minus sign, so that none is below +0.0.
-- Not here: which matches are kept (Kept). Laws: proofs/Laws/Best.
-- Assumes nothing.
use Rattle.std.specs.Prelude.{ℕ, Bool, false, cond, ◌||◌, List, [], ◌∷◌, eqb, Float}
use Rattle.std.specs.Float.Ieee.{of_bits, le}
use Rattle.std.specs.Float.{binary32}
use Rattle.cd_best.specs.Kept.{Hit}

-- the higher of two scores
abbrev pub higher : Float → Float → Float
higher x y = cond (le y x) x y

-- a match of the language with the first record r was kept
unfoldable pub has_match : List Hit → ℕ → Bool
has_match [] r = false
has_match (h ∷ hits) r = eqb h.at r || has_match hits r

-- the best score of those
unfoldable pub best_score : List Hit → ℕ → Float
best_score [] r = of_bits binary32 0
best_score (h ∷ hits) r = cond (eqb h.at r) (higher h.score (best_score hits r)) (best_score hits r)
