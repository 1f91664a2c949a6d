-- Which matches are kept (01, Layers and rankings): "Below the threshold .. a match is skipped; from f32 0.8 up it counts as sufficient. The third
-- such match, counted over all layers, ends its layer; each later layer ends after its first kept match." Not here: which matches a layer has, and
-- their scores; the best of them: Best.
-- Assumes nothing.
use Rattle.std.specs.Prelude.{ℕ, ◌+◌, cond, List, [], ◌∷◌, leb, Float}
use Rattle.std.specs.Float.Ieee.{of_bits, le, lt}
use Rattle.std.specs.Float.{binary32}
use Rattle.base.specs.Numbers.{bump}

-- f32 0.8
abbrev pub SUFFICIENT : Float
SUFFICIENT = of_bits binary32 0x3F4CCCCD

-- "The third such match"
abbrev pub ENOUGH : ℕ
ENOUGH = 3

abbrev pub is_sufficient : Float → ℕ
is_sufficient score = bump (le SUFFICIENT score)

-- a kept match: the first record of its language, and its score
pub record Hit : Type 0 where
  pub at : ℕ
  pub score : Float

-- how many of them are sufficient
unfoldable pub sufficient_in : List Hit → ℕ
sufficient_in [] = 0
sufficient_in (h ∷ hits) = is_sufficient h.score + sufficient_in hits

-- those of one layer, in order, where n sufficient ones were kept before them
unfoldable pub kept_in : Float → ℕ → List ℕ → List Float → List Hit
kept_in threshold n [] scores = []
kept_in threshold n (at ∷ ats) [] = []
kept_in threshold n (at ∷ ats) (score ∷ scores) =
    cond (lt score threshold) (kept_in threshold n ats scores)
    (record { at = at; score = score }
    ∷ cond (leb ENOUGH (n + is_sufficient score)) [] (kept_in threshold (n + is_sufficient score) ats scores))
