-- The report's text (02 [13]): "The report prints one line per nonempty bin: detector 1 to 8, bin and count in decimal with single spaces, rising; then
-- `lines`, `accepted` and `refused`, each with its total, one to a line". Rising is by detector, then by bin; every line ends in 0A.
-- Assumes nothing.
use Rattle.std.specs.Prelude.{ℕ, zero, suc, ◌+◌, cond, List, [], ◌++◌, eqb}
use Rattle.pieces.specs.Words.{codes}
use Rattle.pieces.specs.Numerals.{decimal}
use Rattle.ratio.specs.Eight.{DETECTORS}
use Rattle.md_report_meaning.specs.Rows.{lines_in}
use Rattle.md_report_meaning.specs.Bins.{BINS, in_bin, accepted, refused}

-- f 0, f 1, .. one behind the other, n of them
unfoldable pub joined : (ℕ → List ℕ) → ℕ → List ℕ
joined f zero = []
joined f (suc n) = joined f n ++ f n

-- the line of a bin, and nothing where the bin is empty
unfoldable pub bin_line : ℕ → ℕ → ℕ → List ℕ
bin_line detector bin count =
    cond (eqb count 0)
    []
    (decimal detector ++ codes " " ++ decimal bin ++ codes " " ++ decimal count ++ codes "\n")

-- the lines of a detector, 0 to 7 here and 1 to 8 in the text
unfoldable pub detector_text : List ℕ → ℕ → List ℕ
detector_text rows d = joined (λ bin. bin_line (d + 1) bin (in_bin rows d bin)) BINS

-- a total: its word, and the number behind it
unfoldable pub total_line : List ℕ → ℕ → List ℕ
total_line word n = word ++ decimal n ++ codes "\n"

unfoldable pub totals_text : List ℕ → List ℕ
totals_text rows =
    total_line (codes "lines ") (lines_in rows)
    ++ total_line (codes "accepted ") (accepted rows)
    ++ total_line (codes "refused ") (refused rows)

unfoldable pub report_text : List ℕ → List ℕ
report_text rows = joined (detector_text rows) DETECTORS ++ totals_text rows
