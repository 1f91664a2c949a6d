-- The included numbers of a call that is not refused: at most 64, each of them in the table unless it is a lone 0.
-- Assumes nothing.
use Rattle.std.specs.Prelude.{ℕ, ◌≤◌, ◌<◌, ◌≡◌, List, true, false, length, get_or}
use Rattle.base.specs.Limits.{MOST_INCLUDED}
use Rattle.cd_languages.specs.Included.{lone_zero, in_table}

pub record Permitted (included t : List ℕ) : Type 0 where
  pub few : length included ≤ MOST_INCLUDED
  pub known : lone_zero included ≡ false → (i : ℕ) → i < length included → in_table t (get_or included i 0) ≡ true
