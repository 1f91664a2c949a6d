-- What the public calls have made sure of before they scan.
-- Assumes nothing.
use Rattle.std.specs.Prelude.{ℕ, ◌≤◌, ◌≡◌, List, length}
use Rattle.base.specs.Limits.{LONGEST_TEXT}
use Rattle.class_builtin.specs.Inner.Words.{packed_words}
use Rattle.classes.specs.Inner.Tables.{Tables}

-- the tables were checked, the text is short enough, and the built-in table is the one that is lent
pub record Ready (table classes pairs text : List ℕ) : Type 0 where
  pub tables : Tables classes pairs
  pub short : length text ≤ LONGEST_TEXT
  pub builtin : table ≡ packed_words
