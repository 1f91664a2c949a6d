-- Words of inner contracts, beside Chunk: `Chunk`. No public promise rests on them.
-- Assumes nothing.
use Rattle.std.specs.Prelude.{ℕ, ◌+◌, ◌≤◌, List, length}
use Rattle.base.specs.Limits.{LONGEST_TEXT}
use Rattle.classes.specs.Inner.Tables.{Tables}
use Rattle.md_running_meaning.specs.declared.Running.{Running}

-- the line has a place for each character, and the tables were checked
pub record Chunk (s : Running) (text classes pairs : List ℕ) : Type 0 where
  pub left : s.received + length text ≤ s.length
  pub short : s.length ≤ LONGEST_TEXT
  pub tables : Tables classes pairs
