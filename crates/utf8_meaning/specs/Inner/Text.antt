-- A word of inner contracts, beside Text: `from`. No public promise rests on it.
-- Assumes nothing.
use Rattle.std.specs.Prelude.{ℕ, ◌-◌, List, length}
use Rattle.utf8_meaning.specs.Text.{Reading, steps}

-- what is read from the place i on
unfoldable pub from : List ℕ → ℕ → Reading
from bytes i = steps (length bytes - i) bytes i
