-- What was checked of what is lent beside the bytes, before a text is scored.
-- Assumes nothing.
use Rattle.std.specs.Prelude.{ℕ, ◌≡◌, true, List, Float}
use Rattle.class_builtin.specs.Inner.Words.{packed_words}
use Rattle.classes.specs.Inner.Tables.{Tables}
use Rattle.ratio.specs.Finite.{is_finite}

-- the threshold is finite, the tables were checked, and the built-in table is the one that is lent
pub record Lendable (threshold : Float) (table classes pairs : List ℕ) : Type 0 where
  pub finite : is_finite threshold ≡ true
  pub tables : Tables classes pairs
  pub builtin : table ≡ packed_words
