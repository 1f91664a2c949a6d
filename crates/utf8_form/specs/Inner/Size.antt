-- Words of inner contracts: how many bytes one encoding has (`Size`). No public promise rests on them. Assumes nothing.
use Rattle.std.specs.Prelude.{ℕ, ◌≤◌, ◌≡◌, length}
use Rattle.utf8_table.specs.Encoding.{encode}

pub record Size (c r : ℕ) : Type 0 where
  pub is : r ≡ length (encode c)
  pub small : r ≤ 4
