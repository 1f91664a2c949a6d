-- What the code holds of the kept matches after a layer, and after all layers of a text: the same reading as KeptMatches, as `Standing`. That it tallies
-- with the kept matches: proofs/Laws/Kept.
-- Assumes nothing.
use Rattle.std.specs.Prelude.{ℕ, cond, List, [], ◌∷◌, leb, Float, length}
use Rattle.cd_layers.specs.Layers.{Layer}
use Rattle.cd_letters.specs.Letters.{ranking}
use Rattle.cd_taken_meaning.specs.Accents.{some_accented}
use Rattle.cd_matches.specs.Inner.LayerRead.{layer_read}
use Rattle.cd_best.specs.declared.Standing.{Standing}

-- a layer with these distinct letters, by popularity, is read
unfoldable pub order_after : Float → List ℕ → List ℕ → List ℕ → Standing → List ℕ → Standing
order_after threshold classes t included s order = layer_read threshold t included (some_accented classes order) order s

-- a layer with these letters
unfoldable pub layer_after : Float → ℕ → List ℕ → List ℕ → List ℕ → Standing → List ℕ → Standing
layer_after threshold small classes t included s letters =
    cond (leb (length letters) small) s (order_after threshold classes t included s (ranking letters))

unfoldable pub layers_after : Float → ℕ → List ℕ → List ℕ → List ℕ → Standing → List Layer → Standing
layers_after threshold small classes t included s [] = s
layers_after threshold small classes t included s (y ∷ ys) =
    layers_after threshold small classes t included (layer_after threshold small classes t included s y.letters) ys
