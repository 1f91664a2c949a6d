-- Words of inner contracts, beside OutOfOrder: `Paired`. No public promise rests on them.
-- Assumes nothing.
use Rattle.std.specs.Prelude.{ℕ, ◌≤◌, ◌≡◌, Bool, List, length}
use Rattle.base.specs.Limits.{LANGUAGE_LETTERS}
use Rattle.cd_jaro_meaning.specs.Jaro.{picked}

-- what `out_of_order` is told: a flag for each letter, and as many letters as flags that are set
pub record Paired (language : List ℕ) (taken : List Bool) (letters : List ℕ) : Type 0 where
  pub few : length language ≤ LANGUAGE_LETTERS
  pub flags : length language ≡ length taken
  pub pairs : length (picked language taken) ≡ length letters
