-- Numbers made of tests: what `one` and `pick` answer.
-- Assumes nothing.
use Rattle.std.specs.Prelude.{ℕ, Bool, cond}

-- 1 where the test holds, else 0
abbrev pub bump : Bool → ℕ
bump b = cond b 1 0
