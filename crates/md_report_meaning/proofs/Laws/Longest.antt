-- A text is not longer than LONGEST-REPORT (`report_fits`). A bin's line has its detector's one digit, two spaces, 0A and the digits of the bin and of the count; a
-- count's digits, 900 times, are at most the count and 2,600; and the counts of a detector add up to 65,535 at most.
-- Assumes nothing.
use Prim.Native.Nat.{ℕ, zero, suc, ◌+◌, ◌*◌, ◌<◌, ◌≤◌}
use mathlib.Core.Path.{◌≡◌, refl}
use mathlib.Core.Bool.{cond}
use mathlib.Core.List.{List, [], ◌++◌}
use native.Mathlib.Omega.{arith}
use lib.Dec.{eqb, ltb}
use lib.ListN.{length, length-append}
use borrow.Author.Tests.{lt-ltb, le-ltb}
use Rattle.base.proofs.Laws.Tests.{cond_both, split}
use Rattle.pieces.specs.Words.{codes}
use Rattle.pieces.specs.Numerals.{decimal}
use Rattle.pieces.proofs.Laws.Numerals.{decimal_few, decimal_short}
use Rattle.ratio.specs.Eight.{DETECTORS}
use Rattle.md_report_meaning.specs.Rows.{lines_in}
use Rattle.md_report_meaning.specs.Bins.{BINS, sum_to, in_bin, accepted, refused}
use Rattle.md_report_meaning.specs.Report.{MOST_LINES, LONGEST_REPORT}
use Rattle.md_report_meaning.specs.Text.{joined, bin_line, detector_text, total_line, totals_text, report_text}
use Rattle.md_report_meaning.specs.Inner.Written.{SPARE}
use Rattle.md_report_meaning.proofs.Laws.Report.{in_bin_few, bins_add_up, accepted_refused}

-- ---- digits
-- of a bin
unfoldable digits_of : ℕ → ℕ
digits_of bin = cond (ltb bin 10) 1 (cond (ltb bin 100) 2 3)

bin_digits : (bin : ℕ) → bin < BINS → length (decimal bin) ≤ digits_of bin
unfolding digits_of
bin_digits bin h =
    split bin 10
    (λ a. rw (lt-ltb bin 10 a) (decimal_few 0 bin a))
    (λ a. rw (le-ltb bin 10 a)
    (split bin 100 (λ b. rw (lt-ltb bin 100 b) (decimal_few 1 bin b)) (λ b. rw (le-ltb bin 100 b) (decimal_few 2 bin (omega arith)))))

-- of all bins: 10 of one digit, 90 of two and 413 of three
all_digits : sum_to digits_of BINS ≡ 1429
unfolding sum_to digits_of
all_digits = refl

-- of a count, 900 times
count_digits : (count : ℕ) → count ≤ MOST_LINES → 900 * length (decimal count) ≤ 2600 + count
count_digits count h =
    split count 100
    (λ a. omega (arith, decimal_few 1 count a))
    (λ a. split count 1000
    (λ b. omega (arith, decimal_few 2 count b))
    (λ b. split count 10000 (λ d. omega (arith, decimal_few 3 count d)) (λ d. omega (arith, decimal_few 4 count (omega arith)))))

-- ---- lines
line_length : (detector bin count : ℕ) → detector < 10 → bin < BINS → count ≤ MOST_LINES
    → 900 * length (bin_line detector bin count) ≤ 900 * digits_of bin + 6200 + count
unfolding bin_line
line_length detector bin count h k l =
    cond_both (λ (t : List ℕ). 900 * length t ≤ 900 * digits_of bin + 6200 + count) (eqb count 0) _ _ (omega arith)
    (omega (
      arith,
      decimal_few 0 detector h,
      bin_digits bin k,
      count_digits count l,
      length-append (decimal detector) (codes " "),
      length-append (decimal detector ++ codes " ") (decimal bin),
      length-append (decimal detector ++ codes " " ++ decimal bin) (codes " "),
      length-append (decimal detector ++ codes " " ++ decimal bin ++ codes " ") (decimal count),
      length-append (decimal detector ++ codes " " ++ decimal bin ++ codes " " ++ decimal count) (codes "\n"),
    ))

joined_within : (f : ℕ → List ℕ) (w c : ℕ → ℕ) (n : ℕ) → ((k : ℕ) → k < n → 900 * length (f k) ≤ 900 * w k + 6200 + c k)
    → 900 * length (joined f n) ≤ 900 * sum_to w n + 6200 * n + sum_to c n
unfolding joined sum_to
joined_within f w c zero h = omega arith
joined_within f w c (suc n) h =
    omega (arith, joined_within f w c n (λ k l. h k (omega arith)), h n (omega arith), length-append (joined f n) (f n))

joined_most : (f : ℕ → List ℕ) (most n : ℕ) → ((k : ℕ) → k < n → length (f k) ≤ most) → length (joined f n) ≤ most * n
unfolding joined
joined_most f most zero h = omega arith
joined_most f most (suc n) h =
    omega (arith, joined_most f most n (λ k l. h k (omega arith)), h n (omega arith), length-append (joined f n) (f n))

module _ (rows : List ℕ) (few : lines_in rows ≤ MOST_LINES) where
  detector_length : (d : ℕ) → d < DETECTORS → length (detector_text rows d) ≤ 5035
  unfolding detector_text
  detector_length d h =
      let near = joined_within (λ bin. bin_line (d + 1) bin (in_bin rows d bin)) digits_of (in_bin rows d) BINS
      (λ bin k. line_length (d + 1) bin (in_bin rows d bin) (omega arith) k (omega (arith, in_bin_few rows d bin))) in
      omega (arith, near, all_digits, bins_add_up rows d, accepted_refused rows)

  pub detectors_fit : length (joined (detector_text rows) DETECTORS) + SPARE ≤ LONGEST_REPORT
  detectors_fit = omega (arith, joined_most (detector_text rows) 5035 DETECTORS detector_length)

  total_length : (word : List ℕ) (n : ℕ) → length (total_line word n) ≤ length word + 11
  unfolding total_line
  total_length word n = omega (arith, length-append word (decimal n), length-append (word ++ decimal n) (codes "\n"), decimal_short n)

  pub report_fits : length (report_text rows) ≤ LONGEST_REPORT
  unfolding report_text totals_text
  report_fits =
      omega (
        arith,
        detectors_fit,
        length-append (joined (detector_text rows) DETECTORS)
            (total_line (codes "lines ") (lines_in rows) ++ total_line (codes "accepted ") (accepted rows) ++ total_line (codes "refused ") (refused rows)),
        length-append (total_line (codes "lines ") (lines_in rows) ++ total_line (codes "accepted ") (accepted rows)) (total_line (codes "refused ") (refused rows)),
        length-append (total_line (codes "lines ") (lines_in rows)) (total_line (codes "accepted ") (accepted rows)),
        total_length (codes "lines ") (lines_in rows),
        total_length (codes "accepted ") (accepted rows),
        total_length (codes "refused ") (refused rows),
      )
