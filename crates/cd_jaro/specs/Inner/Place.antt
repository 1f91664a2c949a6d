-- Words of inner contracts, beside Place: `Reach`, `least`, `Least`. No public promise rests on them.
-- Assumes nothing.
use Rattle.std.specs.Prelude.{ℕ, ◌≤◌, ◌<◌, ◌≡◌, Bool, cond, List, length, ltb}
use Rattle.base.specs.Inner.Limits.{MOST_LETTERS}

-- what `place` is told: a flag for each letter, and numbers that can be added
pub record Reach (language : List ℕ) (taken : List Bool) (i w : ℕ) : Type 0 where
  pub flags : length language ≤ length taken
  pub near : i < MOST_LETTERS
  pub narrow : w ≤ MOST_LETTERS

-- the smaller of two numbers
abbrev pub least : ℕ → ℕ → ℕ
least a b = cond (ltb a b) a b

-- what `least` ensures
pub record Least (a b r : ℕ) : Type 0 where
  pub is : r ≡ least a b
  pub small : r ≤ b
