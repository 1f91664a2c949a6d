-- Words of inner contracts, beside Read: `Encodes`. No public promise rests on them.
-- Assumes nothing.
use Rattle.std.specs.Prelude.{ℕ, ◌≡◌, List, true, length}
use Rattle.utf8_table.specs.Encoding.{encode_all, scalars}
use Rattle.utf8_meaning.specs.Text.{text_of}

-- what an accepted reading says of the bytes
pub record Encodes (bytes : List ℕ) (n : ℕ) : Type 0 where
  pub scalar : scalars (text_of bytes) ≡ true
  pub bytes_are : bytes ≡ encode_all (text_of bytes)
  pub count : n ≡ length (text_of bytes)
