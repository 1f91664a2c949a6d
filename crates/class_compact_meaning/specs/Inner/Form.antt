-- Words of inner contracts, beside Form: `Place`, `Sized`, `Filled`. No public promise rests on them.
-- Assumes nothing.
use Rattle.std.specs.Prelude.{ℕ, ◌%◌, ◌≤◌, ◌<◌, ◌≡◌, Bool, not, ◌||◌, List, length, eqb, ltb}
use Rattle.base.specs.Limits.{MOST_CLASSES}
use Rattle.class_compact_meaning.specs.Form.{COMPACT_RECORD, compact_records, place_at}
use Rattle.class_compact_meaning.specs.Unpacked.{unpacked}

-- what the upper half of a word, and the upper of two words, are counted in
abbrev pub HALF : ℕ
HALF = 65536

abbrev pub WORD : ℕ
WORD = 4294967296

-- what `place_of` ensures: the place, and that it has 16 bits
pub record Place (c : List ℕ) (i r : ℕ) : Type 0 where
  pub is : r ≡ place_at c i
  pub small : r < HALF

-- the class list's length or number is not allowed
unfoldable pub wrong_list : List ℕ → Bool
wrong_list c = not (eqb (length c % COMPACT_RECORD) 0) || ltb MOST_CLASSES (compact_records c)

-- the class list's length and number are allowed
pub record Sized (c : List ℕ) : Type 0 where
  pub whole : length c % COMPACT_RECORD ≡ 0
  pub few : compact_records c ≤ MOST_CLASSES

-- the expansion of a class list whose length and number are allowed
pub record Filled (c l table : List ℕ) : Type 0 where
  pub sized : Sized c
  pub is : table ≡ unpacked c l
