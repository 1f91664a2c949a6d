-- Words of inner contracts, beside First: `first_from`. No public promise rests on them.
-- Assumes nothing.
use Rattle.std.specs.Prelude.{ℕ, ◌-◌, Bool}
use Rattle.base.specs.First.{seek}

unfoldable pub first_from : (ℕ → Bool) → ℕ → ℕ → ℕ
first_from f n i = seek f (n - i) i
