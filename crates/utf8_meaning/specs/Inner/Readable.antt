-- What is known of bytes that were counted.
-- Assumes nothing.
use Rattle.std.specs.Prelude.{ℕ, ◌≤◌, ◌≡◌, true, List, length}
use Rattle.base.specs.Limits.{LONGEST_BYTES, LONGEST_TEXT}
use Rattle.utf8_meaning.specs.Text.{text_of, well_formed}

-- they are the text of n code points
pub record Readable (bytes : List ℕ) (n : ℕ) : Type 0 where
  pub short : length bytes ≤ LONGEST_BYTES
  pub whole : well_formed bytes ≡ true
  pub count : n ≡ length (text_of bytes)
  pub few : n ≤ LONGEST_TEXT
