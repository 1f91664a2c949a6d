-- Tests put together, a number between two, a scalar value, and going by the cases of a test.
-- Assumes nothing.
use Rattle.std.specs.Prelude.{ℕ, Bool, not, ◌&&◌, ◌||◌, leb}
use Rattle.base.specs.Limits.{LAST_POINT, SURROGATE_FIRST, SURROGATE_LAST}

abbrev pub implies : Bool → Bool → Bool
implies a b = not a || b

-- both hold or neither
abbrev pub same : Bool → Bool → Bool
same a b = implies a b && implies b a

-- lo <= n <= hi
abbrev pub within : ℕ → ℕ → ℕ → Bool
within lo hi n = leb lo n && leb n hi

-- a scalar value (the Unicode Standard, D76): a code point that is no surrogate
unfoldable pub scalar : ℕ → Bool
scalar p = leb p LAST_POINT && not (within SURROGATE_FIRST SURROGATE_LAST p)
