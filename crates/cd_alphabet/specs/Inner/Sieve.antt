-- Words of inner contracts, beside Sieve: `SIEVE`, `place_of`, `Sieved`. No public promise rests on them.
-- Assumes nothing.
use Rattle.std.specs.Prelude.{ℕ, ◌%◌, ◌≤◌, ◌<◌, ◌≡◌, Bool, true, false, List, length, get_or}

abbrev pub SIEVE : ℕ
SIEVE = 16384

-- a letter's place
abbrev pub place_of : ℕ → ℕ
place_of x = x % SIEVE

pub record Sieved (layer : List ℕ) (sieve : List Bool) : Type 0 where
  pub room : SIEVE ≤ length sieve
  pub marked : (k : ℕ) → k < length layer → get_or sieve (place_of (get_or layer k 0)) false ≡ true
