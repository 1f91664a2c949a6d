-- Words of inner contracts: what a walk over a part of a text has shown, from one index to another, the last not counted. No public promise rests on
-- them.
-- Assumes nothing.
use Rattle.std.specs.Prelude.{ℕ, ◌≤◌, ◌<◌, ◌≡◌, Bool, true, false, List}
use Rattle.base.specs.Limits.{BUILTIN_END}
use Rattle.md_meaning.specs.Text.{char_at}
use Rattle.md_meaning.specs.Scan.{unclassed}

-- all characters up to r lie from low to high, and r is not past `end`
pub record Past (text : List ℕ) (low high from end r : ℕ) : Type 0 where
  pub begins : from ≤ r
  pub ends : r ≤ end
  pub least : (j : ℕ) → from ≤ j → j < r → low ≤ char_at text j
  pub most : (j : ℕ) → from ≤ j → j < r → char_at text j ≤ high

-- where b is true, the built-in table has all characters up to `end`
pub record Builtin (b : Bool) (text : List ℕ) (from end : ℕ) : Type 0 where
  pub each : b ≡ true → (j : ℕ) → from ≤ j → j < end → char_at text j < BUILTIN_END

-- all characters up to r have a class, and r is not past `end`; where r is i, the character there has none
pub record Stepped (classes text : List ℕ) (i end r : ℕ) : Type 0 where
  pub begins : i ≤ r
  pub ends : r ≤ end
  pub classed : (j : ℕ) → i ≤ j → j < r → unclassed classes text j ≡ false
  pub stuck : r ≡ i → unclassed classes text i ≡ true

-- the same; where r is before `end`, the character there has none
pub record Walked (classes text : List ℕ) (from end r : ℕ) : Type 0 where
  pub begins : from ≤ r
  pub ends : r ≤ end
  pub classed : (j : ℕ) → from ≤ j → j < r → unclassed classes text j ≡ false
  pub found : r < end → unclassed classes text r ≡ true
