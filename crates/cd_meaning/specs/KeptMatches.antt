-- The matches of a text that are kept (01, "Layers and rankings"), in the order in which they are found: layer by layer in making order, and in each
-- the matches of Rattle.cd_matches.specs.Matches that Rattle.cd_best.specs.Kept keeps. Laws: proofs/Laws/Kept.
-- Assumes nothing.
use Rattle.std.specs.Prelude.{ℕ, cond, List, [], ◌∷◌, ◌++◌, leb, Float, length}
use Rattle.cd_layers.specs.Layers.{Layer, alpha_unicode_split}
use Rattle.cd_letters.specs.Letters.{ranking}
use Rattle.cd_taken_meaning.specs.Taken.{taken_chars}
use Rattle.cd_taken_meaning.specs.Accents.{some_accented}
use Rattle.cd_matches.specs.Matches.{match_records, scores_of}
use Rattle.cd_best.specs.Kept.{Hit, sufficient_in, kept_in}

module _ (threshold : Float) (small : ℕ) (classes languages included : List ℕ) where
  -- the matches of a layer with these distinct letters, by popularity
  abbrev pub records_of : List ℕ → List ℕ
  records_of order = match_records languages included (some_accented classes order) order

  -- those kept before it, of which the sufficient count, and those of the layer
  unfoldable pub order_kept : List Hit → List ℕ → List Hit
  order_kept hits order = hits ++ kept_in threshold (sufficient_in hits) (records_of order) (scores_of languages order (records_of order))

  -- a layer with these letters: "those of at most `small` letters are skipped"
  unfoldable pub layer_kept : List Hit → List ℕ → List Hit
  layer_kept hits letters = cond (leb (length letters) small) hits (order_kept hits (ranking letters))

  -- "Layers are read in making order"
  unfoldable pub layers_kept : List Hit → List Layer → List Hit
  layers_kept hits [] = hits
  layers_kept hits (y ∷ ys) = layers_kept (layer_kept hits y.letters) ys

-- of a text
abbrev pub kept_of : (text : List ℕ) (threshold : Float) (small : ℕ) (classes pairs languages included : List ℕ) → List Hit
kept_of text threshold small classes pairs languages included =
    layers_kept threshold small classes languages included [] (alpha_unicode_split pairs (taken_chars classes text))
