-- Words of inner contracts, beside LittleEndian: `Word`. No public promise rests on them.
-- Assumes nothing.
use Rattle.std.specs.Prelude.{ℕ, ◌+◌, ◌/◌, ◌%◌, ◌≡◌, List}
use Rattle.base.specs.LittleEndian.{le16, le32}

-- what `u32_at` ensures: the number, and the two numbers that its halves are
pub record Word (t : List ℕ) (at r : ℕ) : Type 0 where
  pub is : r ≡ le32 t at
  pub low : r % 65536 ≡ le16 t at
  pub high : r / 65536 ≡ le16 t (at + 2)
