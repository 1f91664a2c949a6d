-- Words of inner contracts: a part of a list of l elements from i on that ends at r, and is not empty where anything is left (`Part`). No public promise
-- rests on them. Assumes nothing.
use Rattle.std.specs.Prelude.{ℕ, ◌≤◌, ◌<◌}

pub record Part (l i r : ℕ) : Type 0 where
  pub here : i ≤ r
  pub inside : r ≤ l
  pub some : i < l → i < r
