-- Words of inner contracts, beside Causes: `Free`. No public promise rests on them.
-- Assumes nothing.
use Rattle.std.specs.Prelude.{ℕ, ◌*◌, ◌≤◌, List, length}
use Rattle.base.specs.Limits.{LONGEST_RANKED, WORK_PER_POINT}
use Rattle.classes.specs.Inner.Tables.{Tables}
use Rattle.cd_taken_meaning.specs.Unclassed.{first_unclassed}
use Rattle.cd_meaning.specs.Inner.Comparable.{Comparable}

-- what a call that is allowed has; `work` is how many words of work are lent
pub record Free (text classes pairs t included : List ℕ) (work : ℕ) : Type 0 where
  pub short : length text ≤ LONGEST_RANKED
  pub tables : Tables classes pairs
  pub comparable : Comparable classes t included
  pub enough : WORK_PER_POINT * length text ≤ work
  pub classed : length text ≤ first_unclassed classes text
