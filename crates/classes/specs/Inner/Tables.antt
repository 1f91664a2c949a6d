-- What the public calls have made sure of before they look anything up in the lent tables.
-- Assumes nothing.
use Rattle.std.specs.Prelude.{ℕ, ◌≡◌, true, List, length}
use Rattle.base.specs.Limits.{PAIR_BYTES}
use Rattle.class_records.specs.Records.{good_table}

-- the class table is good, and the pair table has its size
pub record Tables (classes pairs : List ℕ) : Type 0 where
  pub good : good_table classes ≡ true
  pub fits : length pairs ≡ PAIR_BYTES
