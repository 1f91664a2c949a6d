-- What a month's counts add up to, from the list of lines: the bins of each detector to the accepted lines (`bins_add_up`), with the refused to the lines given
-- (`lines_add_up`), the refused of each number to the refused (`numbers_add_up`).
-- Assumes nothing.
use Prim.Native.Nat.{ℕ, zero, suc, ◌+◌, ◌<◌, ◌≤◌}
use mathlib.Core.Path.{◌≡◌, refl, sym, ap, ◌∙◌}
use mathlib.Core.Bool.{Bool, true, false, cond, not, ◌&&◌, ◌||◌}
use mathlib.Core.List.{List}
use native.Mathlib.Omega.{arith}
use lib.Dec.{eqb, ltb}
use borrow.Author.Tests.{ltb-false, eqb-true, eqb-false, eq-eqb, ne_eqb}
use Rattle.base.proofs.Laws.Tests.{by_test, cond_both, by_bool}
use Rattle.base.specs.Refusals.{ACCEPTED}
use Rattle.md_report_meaning.specs.Rows.{lines_in, number_at, accepted_at}
use Rattle.md_report_meaning.specs.Bins.{BINS, LAST_BIN, LAST_NUMBER, OTHER, sum_to, how_many, zero_bits, parts, bin_of, bin_at, in_bin, accepted, refused, kind_of, numbered}
use Rattle.md_report_meaning.proofs.Laws.Tally.{how_many_few, how_many_same}
use Rattle.md_report_meaning.proofs.Laws.Sums.{sum_first, tally_adds_up, both_ways}

bin_small : (ratio n d : ℕ) → bin_of ratio n d < BINS
unfolding bin_of
bin_small ratio n d =
    cond_both (λ (b : ℕ). b < BINS) (zero_bits ratio || eqb d 0) _ _ (omega arith)
    (by_test (λ (b : ℕ). b < BINS) (ltb LAST_BIN (parts n d)) _ _ (λ e. omega arith) (λ e. omega (arith, ltb-false LAST_BIN (parts n d) e)))

pub bin_at_small : (rows : List ℕ) (d i : ℕ) → bin_at rows d i < BINS
unfolding bin_at
bin_at_small rows d i = bin_small _ _ _

pub kind_small : (number : ℕ) → kind_of number < OTHER + 1
unfolding kind_of
kind_small number = by_test (λ (b : ℕ). b < OTHER + 1) (ltb LAST_NUMBER number) _ _ (λ e. omega arith) (λ e. omega (arith, ltb-false LAST_NUMBER number e))

-- the number 0 and no other is counted as 0
kind_none : (number : ℕ) → eqb (kind_of number) 0 ≡ eqb number ACCEPTED
unfolding kind_of
kind_none zero = refl
kind_none (suc n) =
    let ne : eqb (suc n) 0 ≡ false = ne_eqb (suc n) 0 none in
    cond_both (λ (b : ℕ). eqb b 0 ≡ eqb (suc n) 0) (ltb LAST_NUMBER (suc n)) OTHER (suc n) (sym ne) refl
  where
    none : suc n ≡ 0 → ⊥
    none e = omega arith

every : (n : ℕ) → how_many (λ i. true) n ≡ n
unfolding how_many
every zero = refl
every (suc n) = omega (arith, every n)

module _ (rows : List ℕ) where
  pub in_bin_few : (d bin : ℕ) → in_bin rows d bin ≤ lines_in rows
  unfolding in_bin
  in_bin_few d bin = how_many_few _ _

  -- "For each detector the bins add up to the accepted lines"
  pub bins_add_up : (d : ℕ) → sum_to (in_bin rows d) BINS ≡ accepted rows
  unfolding in_bin accepted
  bins_add_up d = tally_adds_up (accepted_at rows) (bin_at rows d) BINS (bin_at_small rows d) (lines_in rows)

  pub accepted_refused : accepted rows + refused rows ≡ lines_in rows
  unfolding accepted refused
  accepted_refused = both_ways (accepted_at rows) (lines_in rows)

  -- "and that sum with the refused lines is the number of lines given"
  pub lines_add_up : (d : ℕ) → sum_to (in_bin rows d) BINS + refused rows ≡ lines_in rows
  lines_add_up d = rw (bins_add_up d) accepted_refused

  pub numbered_none : numbered rows 0 ≡ accepted rows
  unfolding numbered accepted accepted_at
  numbered_none = how_many_same _ _ (lines_in rows) (λ i. kind_none (number_at rows i))

  numbered_all : sum_to (numbered rows) (suc OTHER) ≡ lines_in rows
  unfolding numbered
  numbered_all = tally_adds_up (λ i. true) (λ i. kind_of (number_at rows i)) (suc OTHER) (λ i. kind_small (number_at rows i)) (lines_in rows) ∙ every (lines_in rows)

  -- "Refused lines are counted by number": these counts add up to the refused
  pub numbers_add_up : sum_to (λ k. numbered rows (k + 1)) OTHER ≡ refused rows
  numbers_add_up =
      let e : sum_to (numbered rows) (suc OTHER) ≡ numbered rows 0 + sum_to (λ k. numbered rows (k + 1)) OTHER = sum_first (numbered rows) OTHER in
      omega (arith, e, numbered_all, numbered_none, accepted_refused)
