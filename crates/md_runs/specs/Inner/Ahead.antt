-- Words of inner contracts: characters that are looked at together. No public promise rests on them.
-- Assumes nothing.
use Rattle.std.specs.Prelude.{ℕ, ◌<◌, ◌≤◌}

-- how many they are
abbrev pub AHEAD : ℕ
AHEAD = 8

-- r is past j only where p lies from low to high
pub record Unless (low high p j r : ℕ) : Type 0 where
  pub least : j < r → low ≤ p
  pub most : j < r → p ≤ high
