-- Words of inner contracts: counts in an array, place by place. No public promise rests on them.
-- Assumes nothing.
use Rattle.std.specs.Prelude.{ℕ, zero, suc, ◌+◌, ◌<◌, ◌≤◌, ◌≡◌, Bool, true, ◌&&◌, List, [], ◌∷◌, eqb, get_or}
use Rattle.md_report_meaning.specs.Rows.{lines_in, number_at, accepted_at}
use Rattle.md_report_meaning.specs.Bins.{BINS, bin_at, kind_of, how_many}
use Rattle.md_report_meaning.specs.Report.{MOST_LINES}

-- f k, f (k + 1), .. n of them
unfoldable pub from : (ℕ → ℕ) → ℕ → ℕ → List ℕ
from f k zero = []
from f k (suc n) = f k ∷ from f (suc k) n

-- at each place k below m, for how many i below n the test p holds and g names k
unfoldable pub tally : (ℕ → Bool) → (ℕ → ℕ) → ℕ → ℕ → List ℕ
tally p g m n = from (λ k. how_many (λ i. p i && eqb (g i) k) n) 0 m

-- the bins of the detector d after n lines
unfoldable pub bins_after : List ℕ → ℕ → ℕ → List ℕ
bins_after rows d n = tally (accepted_at rows) (bin_at rows d) BINS n

-- the places of the numbers 0 to 19 and of all others
abbrev pub KINDS : ℕ
KINDS = 21

-- the lines with each number after n lines
unfoldable pub kinds_after : List ℕ → ℕ → List ℕ
kinds_after rows n = tally (λ i. true) (λ i. kind_of (number_at rows i)) KINDS n

-- few enough lines, and the line i is one of them
abbrev pub Few : List ℕ → Type 0
Few rows = lines_in rows ≤ MOST_LINES

abbrev pub Line : List ℕ → ℕ → Type 0
Line rows i = (lines_in rows ≤ MOST_LINES) × (i < lines_in rows)

-- no count is above the lines of a month
abbrev pub Counts : List ℕ → Type 0
Counts l = (k : ℕ) → get_or l k 0 ≤ MOST_LINES

-- the place of a count: which it is, and that the array has it
pub record Place (b most r : ℕ) : Type 0 where
  pub is : r ≡ b
  pub small : r ≤ most
