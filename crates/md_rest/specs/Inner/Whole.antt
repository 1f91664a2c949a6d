-- Words of inner contracts: how many code points the records of a class table hold, and what is known of the characters of a text from one index on.
-- No public promise rests on them.
-- Assumes nothing.
use Rattle.std.specs.Prelude.{ℕ, zero, suc, ◌+◌, ◌-◌, ◌≤◌, ◌<◌, ◌≡◌, Bool, true, false, List, length}
use Rattle.base.specs.Limits.{BUILTIN_END, LAST_POINT, SURROGATE_FIRST, SURROGATE_LAST}
use Rattle.base.specs.Tests.{scalar}
use Rattle.class_records.specs.Records.{record_at}
use Rattle.md_meaning.specs.Text.{char_at, total}
use Rattle.md_meaning.specs.Scan.{unclassed}

-- how many scalar values lie past the built-in table
abbrev pub PAST_BUILTIN : ℕ
PAST_BUILTIN = LAST_POINT + 1 - BUILTIN_END - (SURROGATE_LAST + 1 - SURROGATE_FIRST)

-- how many code points the first k records hold
unfoldable pub sizes_before : List ℕ → ℕ → ℕ
sizes_before t zero = 0
sizes_before t (suc k) = sizes_before t k + ((record_at t k).last + 1 - (record_at t k).first)

-- where b is true, all characters up to `end` are scalar values
pub record Valued (b : Bool) (text : List ℕ) (from end : ℕ) : Type 0 where
  pub each : b ≡ true → (j : ℕ) → from ≤ j → j < end → scalar (char_at text j) ≡ true

-- where b is true, all characters from `from` on have a class
pub record Classed (b : Bool) (classes text : List ℕ) (from : ℕ) : Type 0 where
  pub each : b ≡ true → (j : ℕ) → from ≤ j → j < length text → unclassed classes text j ≡ false

-- the built-in table has all characters up to r
pub record Passed (text : List ℕ) (from r : ℕ) : Type 0 where
  pub begins : from ≤ r
  pub ends : r ≤ total text
  pub each : (j : ℕ) → from ≤ j → j < r → char_at text j < BUILTIN_END
