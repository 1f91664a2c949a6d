-- What the reading of a layer needs of the tables: each has passed its check.
-- Assumes nothing.
use Rattle.std.specs.Prelude.{ℕ, ◌≡◌, true, List}
use Rattle.class_records.specs.Records.{good_table}
use Rattle.cd_languages.specs.Inner.Languages.{good_languages}
use Rattle.cd_languages.specs.Inner.Permitted.{Permitted}

-- of the class table cs, the language table ts and the included numbers ns
pub record Comparable (cs ts ns : List ℕ) : Type 0 where
  pub classes : good_table cs ≡ true
  pub languages : good_languages ts ≡ true
  pub included : Permitted ns ts
