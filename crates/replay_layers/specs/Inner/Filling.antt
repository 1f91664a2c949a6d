-- Words of inner contracts, beside Filling: `LONGEST`, `LAST_WORD`, `Filled`. No public promise rests on them.
-- Assumes nothing.
use Rattle.std.specs.Prelude.{ℕ, ◌≡◌, List, length, take}
use Rattle.cd_layers.specs.Inner.Numbers.{Below}

abbrev pub LONGEST : ℕ
LONGEST = 1024

abbrev pub LAST_WORD : ℕ
LAST_WORD = 8192

pub record Filled (n : ℕ) (w v : List ℕ) : Type 0 where
  pub size : length v ≡ length w
  pub ranges : Below (take n v)
