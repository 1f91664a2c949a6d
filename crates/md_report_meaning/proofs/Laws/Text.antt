-- The text from its pieces (`bin_pieces`, `bin_empty`, `total_pieces`, `report_whole`); that the counts of an array give the detector's text (`counts_text`).
-- Assumes nothing.
use Prim.Native.Nat.{ℕ, zero, suc, ◌+◌, ◌*◌, ◌<◌, ◌≤◌}
use mathlib.Core.Path.{◌≡◌, refl, ap, ◌∙◌}
use mathlib.Core.Bool.{true}
use mathlib.Core.List.{List, [], ◌++◌, append_assoc}
use native.Mathlib.Numerals.{add-one}
use native.Mathlib.Omega.{arith}
use lib.Dec.{eqb}
use lib.ListN.{length, get_or, length-append}
use borrow.Author.Tests.{eq-eqb, ne_eqb}
use Rattle.base.proofs.Laws.Tests.{split}
use Rattle.pieces.specs.Words.{codes}
use Rattle.pieces.specs.Numerals.{decimal}
use Rattle.ratio.specs.Eight.{DETECTORS}
use Rattle.md_report_meaning.specs.Rows.{lines_in, number_at, accepted_at}
use Rattle.md_report_meaning.specs.Bins.{BINS, OTHER, sum_to, bin_at, kind_of, in_bin, refused, numbered}
use Rattle.md_report_meaning.specs.Text.{joined, bin_line, detector_text, total_line, totals_text, report_text}
use Rattle.md_report_meaning.specs.Inner.Counts.{KINDS, Few, Counts, bins_after, kinds_after}
use Rattle.md_report_meaning.specs.Inner.Written.{bin_lines, totals}
use Rattle.md_report_meaning.proofs.Laws.Tally.{tally_at, tally_few}
use Rattle.md_report_meaning.proofs.Laws.Report.{numbered_none, numbers_add_up}
use Rattle.md_report_meaning.proofs.Laws.Sums.{sum_same}

-- ---- one behind the other
pub joined_more : (f : ℕ → List ℕ) (n : ℕ) → joined f n ++ f n ≡ joined f (n + 1)
unfolding joined
joined_more f n = rw (add-one n)

joined_same : (f g : ℕ → List ℕ) (n : ℕ) → ((k : ℕ) → k < n → f k ≡ g k) → joined f n ≡ joined g n
unfolding joined
joined_same f g zero e = refl
joined_same f g (suc n) e = rw (joined_same f g n (λ k h. e k (omega arith)), e n (omega arith))

-- what is joined first is not longer than all
pub joined_part : (f : ℕ → List ℕ) (k n : ℕ) → k ≤ n → length (joined f k) ≤ length (joined f n)
unfolding joined
joined_part f k zero h = same (nil k h)
  where
    nil : (k : ℕ) → k ≤ 0 → k ≡ 0
    nil k h = omega arith

    same : k ≡ 0 → length (joined f k) ≤ 0
    same e = rw e (omega arith)
joined_part f k (suc n) h =
    split n k
    (λ l. let e : k ≡ suc n = omega arith in rw e (omega arith))
    (λ l. omega (arith, joined_part f k n l, length-append (joined f n) (f n)))

-- ---- lines
-- the pieces of a bin's line, as they are put
pub bin_pieces : (detector bin count : ℕ) → (count ≡ 0 → ⊥)
    → (codes "" ++ decimal detector) ++ (codes " " ++ decimal bin) ++ (codes " " ++ decimal count) ++ codes "\n" ≡ bin_line detector bin count
unfolding bin_line
bin_pieces detector bin count h = rw (ne_eqb count 0 h) (simp append_assoc)

pub bin_empty : (detector bin count : ℕ) → count ≡ 0 → [] ≡ bin_line detector bin count
unfolding bin_line
bin_empty detector bin count e = rw (eq-eqb count 0 e)

-- ---- a detector
module _ (rows : List ℕ) where
  -- an array with the bins of the detector d
  module _ (d : ℕ) (counts : List ℕ) (e : counts ≡ bins_after rows d (lines_in rows)) where
    pub counts_text : bin_lines (d + 1) counts ≡ detector_text rows d
    unfolding bin_lines detector_text bins_after in_bin
    counts_text =
        ap (bin_lines (d + 1)) e
        ∙ joined_same _ _ BINS
        (λ bin h. ap (bin_line (d + 1) bin) (tally_at (accepted_at rows) (bin_at rows d) BINS (lines_in rows) bin h))

-- ---- the totals
pub total_pieces : (word : List ℕ) (n : ℕ) → word ++ decimal n ++ codes "\n" ≡ total_line word n
unfolding total_line
total_pieces word n = refl

-- ---- an array with the lines of each number
module _ (rows kinds : List ℕ) (e : kinds ≡ kinds_after rows (lines_in rows)) where
  pub kinds_few : Few rows → Counts kinds
  unfolding kinds_after
  kinds_few few k = rw e (omega (arith, tally_few (λ i. true) (λ i. kind_of (number_at rows i)) KINDS (lines_in rows) k))

  kinds_at : (k : ℕ) → k < KINDS → get_or kinds k 0 ≡ numbered rows k
  unfolding kinds_after numbered
  kinds_at k h = ap (λ (l : List ℕ). get_or l k 0) e ∙ tally_at (λ i. true) (λ i. kind_of (number_at rows i)) KINDS (lines_in rows) k h

  kinds_refused : sum_to (λ k. get_or kinds (k + 1) 0) OTHER ≡ refused rows
  kinds_refused = sum_same _ _ OTHER (λ k h. kinds_at (k + 1) (omega arith)) ∙ numbers_add_up rows

  -- the texts of the detectors, and the totals behind them
  pub report_whole : (lines turned : ℕ) → lines ≡ lines_in rows → turned ≡ sum_to (λ k. get_or kinds (k + 1) 0) OTHER
      → joined (detector_text rows) DETECTORS ++ totals lines (get_or kinds 0 0) turned ≡ report_text rows
  unfolding report_text totals totals_text
  report_whole lines turned l t = rw (l, t, kinds_refused, kinds_at 0 (omega arith), numbered_none rows)
