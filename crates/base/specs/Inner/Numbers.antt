-- Words of inner contracts, beside Numbers: `One`, `Picked`, `Wide`. No public promise rests on them.
-- Assumes nothing.
use Rattle.std.specs.Prelude.{ℕ, ◌+◌, ◌≤◌, ◌<◌, ◌≡◌, Bool, cond}
use Rattle.base.specs.Numbers.{bump}

-- what `one` ensures: the number, and that it is small
pub record One (b : Bool) (r : ℕ) : Type 0 where
  pub is : r ≡ bump b
  pub small : r ≤ 1

-- what `pick` ensures: the number, and that it is no larger than the two together
pub record Picked (b : Bool) (x y r : ℕ) : Type 0 where
  pub is : r ≡ cond b x y
  pub small : r ≤ x + y

-- what `wide` ensures: the byte, and that it is one
pub record Wide (b r : ℕ) : Type 0 where
  pub is : r ≡ b
  pub small : r < 256
