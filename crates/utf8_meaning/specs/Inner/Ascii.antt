-- Words of inner contracts, beside Ascii: `AsciiRun`, `ascii_on`. No public promise rests on them.
-- Assumes nothing.
use Rattle.std.specs.Prelude.{ℕ, zero, suc, ◌+◌, ◌≤◌, ◌<◌, List, Bool, ◌&&◌, length, ltb}
use Rattle.utf8_table.specs.WellFormed.{byte_at}

-- the bytes from i up to r are ASCII
pub record AsciiRun (bytes : List ℕ) (i r : ℕ) : Type 0 where
  pub here : i ≤ r
  pub inside : r ≤ length bytes
  pub ascii : (j : ℕ) → i ≤ j → j < r → byte_at bytes j < 0x80

abbrev pub is_ascii : List ℕ → ℕ → Bool
is_ascii bytes i = ltb (byte_at bytes i) 0x80

-- the byte at i and the k after it are ASCII
unfoldable pub ascii_on : List ℕ → ℕ → ℕ → Bool
ascii_on bytes i zero = is_ascii bytes i
ascii_on bytes i (suc k) = ascii_on bytes i k && is_ascii bytes (i + suc k)
