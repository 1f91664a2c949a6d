-- Words of inner contracts: a piece of a text, which ends at a checkpoint at the latest. No public promise rests on them.
-- Assumes nothing.
use Rattle.std.specs.Prelude.{ℕ, ◌+◌, ◌≤◌, ◌<◌, ◌≡◌, false}
use Rattle.md_meaning.specs.Text.{checkpoint}

-- r is the smaller of a and b
pub record Nearer (a b r : ℕ) : Type 0 where
  pub first : r ≤ a
  pub second : r ≤ b
  pub some : (x : ℕ) → x < a → x < b → x < r

-- no index from i on is a checkpoint but the last before r
pub record Piece (n i r : ℕ) : Type 0 where
  pub begins : i < r
  pub ends : r ≤ n
  pub quiet : (j : ℕ) → i ≤ j → j + 1 < r → checkpoint n j ≡ false
