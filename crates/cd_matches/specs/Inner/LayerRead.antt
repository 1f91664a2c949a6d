-- What stands after a layer's matches, as the code holds it: the walk of cd_best over the matches of Matches.
-- Assumes nothing.
use Rattle.std.specs.Prelude.{ℕ, Bool, List, Float}
use Rattle.cd_best.specs.declared.Standing.{Standing}
use Rattle.cd_best.specs.Inner.Standing.{walk}
use Rattle.cd_matches.specs.Matches.{match_records, scores_of}

unfoldable pub layer_read : Float → List ℕ → List ℕ → Bool → List ℕ → Standing → Standing
layer_read threshold t included accented order s =
    walk threshold s (match_records t included accented order) (scores_of t order (match_records t included accented order))
