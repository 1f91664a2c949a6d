-- Words of inner contracts, beside Reading: `read_from`. No public promise rests on them.
-- Assumes nothing.
use Rattle.std.specs.Prelude.{ℕ, zero, suc, ◌+◌, List, Float}
use Rattle.cd_letters.specs.Inner.LayerLetters.{layer_letters}
use Rattle.cd_best.specs.declared.Standing.{Standing}
use Rattle.cd_meaning.specs.Inner.After.{layer_after}

module _ (threshold : Float) (small : ℕ) (classes t included : List ℕ) where
  -- m layers of the area, from the one after the k-th on
  unfoldable pub read_from : ℕ → List ℕ → ℕ → ℕ → Standing → Standing
  read_from n w k zero s = s
  read_from n w k (suc m) s = read_from n w (k + 1) m (layer_after threshold small classes t included s (layer_letters n (k + 1) w))
