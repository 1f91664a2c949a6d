-- Words of inner contracts: the text of counts that stand in an array, and how long a text can be. No public promise rests on them.
-- Assumes nothing.
use Rattle.std.specs.Prelude.{ℕ, ◌+◌, ◌≤◌, List, ◌++◌, length, get_or}
use Rattle.pieces.specs.Inner.Pieces.{Goes}
use Rattle.pieces.specs.Numerals.{MOST_DIGITS}
use Rattle.pieces.specs.Words.{codes}
use Rattle.md_report_meaning.specs.Bins.{BINS}
use Rattle.md_report_meaning.specs.Text.{joined, bin_line, total_line}

-- the lines of a detector, 1 to 8, whose counts stand in an array
unfoldable pub bin_lines : ℕ → List ℕ → List ℕ
bin_lines detector counts = joined (λ bin. bin_line detector bin (get_or counts bin 0)) BINS

-- the three totals
unfoldable pub totals : ℕ → ℕ → ℕ → List ℕ
totals lines taken turned = total_line (codes "lines ") lines ++ total_line (codes "accepted ") taken ++ total_line (codes "refused ") turned

-- a total was put, and it ends soon enough
pub record Ended (before after : List ℕ) (at : ℕ) (word : List ℕ) (n next : ℕ) : Type 0 where
  pub goes : Goes before after at (total_line word n) next
  pub near : next ≤ at + length word + MOST_DIGITS + 1

-- bytes behind the place of a line that are enough for it, whatever u32 its numbers are, and for the three totals
abbrev pub SPARE : ℕ
SPARE = 56
