-- Words of inner contracts, beside Cut: `CutLength`. No public promise rests on them.
-- Assumes nothing.
use Rattle.std.specs.Prelude.{ℕ, ◌≤◌, ◌≡◌, List, length, take}
use Rattle.md_chooser_meaning.specs.Cut.{cut}

-- n code points of the text are what is left when it is cut
pub record CutLength (text : List ℕ) (n : ℕ) : Type 0 where
  pub within : n ≤ length text
  pub is : take n text ≡ cut text
