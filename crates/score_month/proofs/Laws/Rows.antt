-- The rows that `score_lines` leaves are read by the report as what they are: a row has as many numbers (`row_words`), and the number, the ratios and the counts of a score
-- stand where the report reads them (`reads_number`, `reads-ratios`, `reads-counts`, `reads_refusal`).
-- Assumes nothing.
use Rattle.std.specs.Prelude.{Ok, Err}
use Prim.Native.Nat.{ℕ}
use mathlib.Core.Path.{◌≡◌, refl}
use mathlib.Core.List.{List, [], ◌∷◌}
use Rattle.base.specs.declared.Refusal.{Refusal}
use Rattle.base.specs.Refusals.{ACCEPTED, number_of}
use Rattle.ratio.specs.declared.EightShown.{EightShown}
use Rattle.ratio.specs.Eight.{bits}
use Rattle.ratio.specs.Shown.{numbers_of, shown_numbers}
use Rattle.md_meaning.specs.declared.Score.{Score}
use Rattle.md_meaning.specs.Values.{values}
use Rattle.md_lines_meaning.specs.Burst.{NUMBERS_PER_LINE, numbers, row_numbers}
use Rattle.md_report_meaning.specs.Rows.{WORDS, number_at, ratio_at, numerator_at, denominator_at}

pub row_words : WORDS ≡ NUMBERS_PER_LINE
row_words = refl

pub reads_refusal : (r : Refusal) → number_at (row_numbers (Err r)) 0 ≡ (number_of r.cause)
unfolding row_numbers numbers values number_at
reads_refusal r = refl

-- the counts of the eight, numerator and denominator
abbrev counts_of : EightShown → List ℕ
counts_of c =
    c.symbols.num ∷ c.symbols.den
    ∷ c.accents.num ∷ c.accents.den
    ∷ c.unprintable.num ∷ c.unprintable.den
    ∷ c.ranges.num ∷ c.ranges.den
    ∷ c.doubled.num ∷ c.doubled.den
    ∷ c.words.num ∷ c.words.den
    ∷ c.stops.num ∷ c.stops.den
    ∷ c.archaic.num ∷ c.archaic.den
    ∷ []

module _ (s : Score) where
  -- its row
  abbrev row : List ℕ
  row = row_numbers (Ok s)

  pub reads_number : number_at row 0 ≡ ACCEPTED
  unfolding row_numbers numbers values number_at
  reads_number = refl

  pub reads_ratios :
      ratio_at row 0 0 ∷ ratio_at row 1 0 ∷ ratio_at row 2 0 ∷ ratio_at row 3 0 ∷ ratio_at row 4 0 ∷ ratio_at row 5 0 ∷ ratio_at row 6 0 ∷ ratio_at row 7 0 ∷ [] ≡ bits s.ratios
  unfolding row_numbers numbers values ratio_at bits
  reads_ratios = refl

  pub reads_counts :
      numerator_at row 0 0 ∷ denominator_at row 0 0
      ∷ numerator_at row 1 0 ∷ denominator_at row 1 0
      ∷ numerator_at row 2 0 ∷ denominator_at row 2 0
      ∷ numerator_at row 3 0 ∷ denominator_at row 3 0
      ∷ numerator_at row 4 0 ∷ denominator_at row 4 0
      ∷ numerator_at row 5 0 ∷ denominator_at row 5 0
      ∷ numerator_at row 6 0 ∷ denominator_at row 6 0
      ∷ numerator_at row 7 0 ∷ denominator_at row 7 0
      ∷ [] ≡ counts_of s.counts
  unfolding row_numbers numbers values numerator_at denominator_at bits shown_numbers numbers_of
  reads_counts = refl
