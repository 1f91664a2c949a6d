-- Words of inner contracts, beside Check: the quick test of the letters (`sound`), what it leaves to be found (`beyond_table`), and the
-- expansion that is at hand (`Expanded`). No public promise
-- rests on them.
-- Assumes nothing.
use Rattle.std.specs.Prelude.{ℕ, zero, suc, ◌+◌, ◌%◌, ◌<◌, ◌≡◌, Bool, true, false, cond, not, ◌&&◌, List, length, eqb, leb, ltb, Result, Ok, ⊤}
use Rattle.base.specs.declared.Refusal.{Refusal}
use Rattle.base.specs.First.{first, each}
use Rattle.class_compact_meaning.specs.Form.{LETTERS_RECORD, compact_records, letters_in, place_at}
use Rattle.class_compact_meaning.specs.Inner.Form.{HALF, Filled}
use Rattle.class_compact_meaning.specs.Inner.Links.{Linked}
use Rattle.class_compact_meaning.specs.Check.{missing, no_letters, repeated, first_use, bad_letters, first_bad_letters, bad_compact}

-- the largest place of the records before i
unfoldable pub seen_before : List ℕ → ℕ → ℕ
seen_before c zero = 0
seen_before c (suc i) = cond (ltb (seen_before c i) (place_at c i)) (place_at c i) (seen_before c i)

-- the record i uses letters that were used before it, or the next
unfoldable pub next_only : List ℕ → ℕ → Bool
next_only c i = leb (place_at c i) (seen_before c i + 1)

-- m letters, used first in their order
unfoldable pub in_first_use : List ℕ → ℕ → Bool
in_first_use c m = each (next_only c) (compact_records c) && eqb (seen_before c (compact_records c)) m

-- the letters k are not (0, 0) and no repeat
unfoldable pub is_own : List ℕ → ℕ → Bool
is_own l k = not (no_letters l k) && not (repeated l k)

-- what `is_own` ensures: letters that are their own are noted
pub record Own (l : List ℕ) (k : ℕ) (own : Bool) (links : List ℕ) : Type 0 where
  pub is : own ≡ is_own l k
  pub linked : own ≡ true → Linked l (k + 1) links

unfoldable pub all_own : List ℕ → Bool
all_own l = each (is_own l) (letters_in l)

-- all letters are good, and no record's are missing
unfoldable pub sound : List ℕ → List ℕ → Bool
sound c l = eqb (length l % LETTERS_RECORD) 0 && (in_first_use c (letters_in l) && all_own l)

-- what the check of the expansion does not find
unfoldable pub beyond_table : List ℕ → List ℕ → Result ⊤ Refusal
beyond_table c l = cond (sound c l) (Ok tt) (bad_compact c l)

-- the first record whose letters are missing
unfoldable pub first_missing : List ℕ → List ℕ → ℕ
first_missing c l = first (missing c l) (compact_records c)

-- what `first_use` ensures: a place that is used has 16 bits
pub record Use (c : List ℕ) (place r : ℕ) : Type 0 where
  pub is : r ≡ first_use c place
  pub small : r < compact_records c → place < HALF

-- what `bad_letters` ensures: letters that are not bad are used, so that their place has 16 bits
pub record Told (c l : List ℕ) (k : ℕ) (b : Bool) : Type 0 where
  pub is : b ≡ bad_letters c l k
  pub small : b ≡ false → k + 1 < HALF

-- what `first_bad_letters` ensures
pub record FirstBad (c l : List ℕ) (r : ℕ) : Type 0 where
  pub is : r ≡ first_bad_letters c l
  pub small : r < HALF

-- the expansion, and whether the records use all letters, first in their order
pub record Expanded (c l table : List ℕ) (ordered : Bool) : Type 0 where
  pub filled : Filled c l table
  pub order : ordered ≡ in_first_use c (letters_in l)
