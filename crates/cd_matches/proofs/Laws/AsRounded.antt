-- The alphabet search as cd.rs has it, by the f32 of each share. Over a good language table it finds the same records (`found_rounded`) and puts the
-- one of two before the other that stands before it here (`before_rounded`).
-- Assumes nothing.
use Prim.Native.Nat.{ℕ, ◌<◌}
use mathlib.Core.Path.{◌≡◌, ap}
use mathlib.Core.Bool.{Bool, true, ◌&&◌}
use mathlib.Core.List.{List}
use lib.Ieee.{le}
use Rattle.ratio.specs.Rounded.{rounded}
use Rattle.ratio.proofs.Laws.CutOffs.{one_fifth}
use Rattle.cd_languages.specs.Languages.{languages}
use Rattle.cd_languages.specs.Inner.Languages.{good_languages}
use Rattle.cd_alphabet.proofs.Laws.Shares.{rounded_before, candidate_alike, before_alike}
use Rattle.cd_matches.specs.Matches.{share_at, eligible, searched, comes_before}
use Rattle.cd_matches.proofs.Laws.Records.{share_at_is}

module _ (t : List ℕ) (good : good_languages t ≡ true) (order : List ℕ) where
  -- `ratio >= 0.2`
  pub found_rounded : (pure_only accented : Bool) (i : ℕ) → i < languages t
      → (eligible t pure_only accented i && le one_fifth.literal (rounded (share_at t order i))) ≡ searched t pure_only accented order i
  unfolding searched
  found_rounded pure_only accented i h =
      ap (λ (b : Bool). eligible t pure_only accented i && b) (candidate_alike (share_at t order i) (share_at_is t good i h order))

  -- "falling ratio, ties in table order"
  pub before_rounded : (i j : ℕ) → i < languages t → j < languages t
      → rounded_before (share_at t order i) i (share_at t order j) j ≡ comes_before t order i j
  before_rounded i j h l =
      before_alike (share_at t order i) (share_at t order j) (share_at_is t good i h order) (share_at_is t good j l order) i j
