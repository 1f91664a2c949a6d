-- The first index at which a test holds, of those below n; n where there is none. One definition for every search and every place that
-- 01 names ("the first bad record", "its index in the text"), and its laws: `first_start`, `_hit`, `_miss`, `_end` for a walk from the
-- front, `first_is` and `first_none` for any other search, `first_before`, `first_found` and `first_within` for readers. And whether a test
-- holds at every index below n (`each`). The test of all entries of a table that antt computes goes along its list (Every).
-- Assumes nothing.
use Rattle.std.specs.Prelude.{ℕ, zero, suc, ◌+◌, Bool, true, cond, ◌&&◌}

-- the first of `left` indices from i on
unfoldable pub seek : (ℕ → Bool) → ℕ → ℕ → ℕ
seek f zero i = i
seek f (suc left) i = cond (f i) i (seek f left (i + 1))

unfoldable pub first : (ℕ → Bool) → ℕ → ℕ
first f n = seek f n 0

-- whether a test holds at every index below n
unfoldable pub each : (ℕ → Bool) → ℕ → Bool
each g zero = true
each g (suc n) = each g n && g n
