-- The counts after i lines, and one line more: there is room at its place (`bin_room`, `kind_room`), and then they are the counts after i + 1
-- (`line_in`, `line_out`, `kind_in`); at the start they are zeros, at the end those of all lines (`bins_start`, `bins_end`, `kinds_start`, `kinds_end`).
-- Assumes nothing.
use Prim.Native.Nat.{ℕ, ◌+◌, ◌<◌, ◌≤◌}
use mathlib.Core.Path.{◌≡◌, refl, sym, ap, ◌∙◌}
use mathlib.Core.Bool.{Bool, true, false}
use mathlib.Core.List.{List}
use native.Mathlib.Omega.{arith}
use lib.ListN.{length, get_or, set, replicate}
use borrow.Author.Tests.{eq-eqb, ne_eqb}
use Rattle.base.specs.Refusals.{ACCEPTED}
use Rattle.md_report_meaning.specs.Rows.{lines_in, word, number_at, accepted_at}
use Rattle.md_report_meaning.specs.Bins.{BINS, LAST_BIN, OTHER, bin_at, kind_of}
use Rattle.md_report_meaning.specs.Report.{MOST_LINES}
use Rattle.md_report_meaning.specs.Inner.Counts.{KINDS, Line, Place, tally, bins_after, kinds_after}
use Rattle.md_report_meaning.proofs.Laws.Tally.{tally_length, tally_start, tally_few, tally_in, tally_out}
use Rattle.md_report_meaning.proofs.Laws.Report.{bin_at_small, kind_small}

-- the counts are a tally's: there is room for one line more
room : (p : ℕ → Bool) (g : ℕ → ℕ) (m i lines b : ℕ) (counts : List ℕ) → counts ≡ tally p g m i → i < lines → lines ≤ MOST_LINES → b < m
    → (b < length counts) × (get_or counts b 0 < MOST_LINES)
room p g m i lines b counts e h few l = (rw (e, tally_length p g m i) l, rw e (omega (arith, tally_few p g m i b)))

-- and its line is added
added : (p : ℕ → Bool) (g : ℕ → ℕ) (m i b : ℕ) (counts out : List ℕ) → counts ≡ tally p g m i → p i ≡ true → g i < m → b ≡ g i
    → out ≡ set counts b (get_or counts b 0 + 1) → out ≡ tally p g m (i + 1)
added p g m i b counts out e t l at o = o ∙ rw (e, at) (tally_in p g m i t l)

taken : (rows : List ℕ) (i : ℕ) → word rows i 0 ≡ ACCEPTED → accepted_at rows i ≡ true
unfolding accepted_at number_at
taken rows i e = eq-eqb _ _ e

turned : (rows : List ℕ) (i : ℕ) → (word rows i 0 ≡ ACCEPTED → ⊥) → accepted_at rows i ≡ false
unfolding accepted_at number_at
turned rows i e = ne_eqb _ _ e

module _ (rows : List ℕ) where
  module _ (d : ℕ) where
    pub bins_start : replicate BINS 0 ≡ bins_after rows d 0
    unfolding bins_after
    bins_start = tally_start (accepted_at rows) (bin_at rows d) BINS

    bins_length : (n : ℕ) → length (bins_after rows d n) ≡ BINS
    unfolding bins_after
    bins_length n = tally_length (accepted_at rows) (bin_at rows d) BINS n

    module _ (i : ℕ) (counts : List ℕ) (e : counts ≡ bins_after rows d i) where
      pub bins_long : length counts ≡ BINS
      bins_long = ap length e ∙ bins_length i

      pub bins_end : (lines : ℕ) → lines ≡ lines_in rows → i ≤ lines → lines ≤ i → counts ≡ bins_after rows d (lines_in rows)
      bins_end lines l h k =
          let n : i ≡ lines_in rows = omega (arith, l) in
          e ∙ ap (bins_after rows d) n

      pub bin_room : (b : ℕ) → Line rows i → b ≤ LAST_BIN → (b < length counts) × (get_or counts b 0 < MOST_LINES)
      unfolding bins_after
      bin_room b h l = room (accepted_at rows) (bin_at rows d) BINS i (lines_in rows) b counts e h.1 h.0 (omega arith)

      pub line_in : (b number : ℕ) (out : List ℕ) → number ≡ word rows i 0 → number ≡ ACCEPTED → Place (bin_at rows d i) LAST_BIN b
          → out ≡ set counts b (get_or counts b 0 + 1) → out ≡ bins_after rows d (i + 1)
      unfolding bins_after
      line_in b number out w a p o = added (accepted_at rows) (bin_at rows d) BINS i b counts out e (taken rows i (sym w ∙ a)) (bin_at_small rows d i) p.is o

      pub line_out : (number : ℕ) → number ≡ word rows i 0 → (number ≡ ACCEPTED → ⊥) → counts ≡ bins_after rows d (i + 1)
      unfolding bins_after
      line_out number w a = e ∙ tally_out (accepted_at rows) (bin_at rows d) BINS i (turned rows i (λ z. a (w ∙ z)))

  pub kinds_start : replicate KINDS 0 ≡ kinds_after rows 0
  unfolding kinds_after
  kinds_start = tally_start (λ i. true) (λ i. kind_of (number_at rows i)) KINDS

  kinds_length : (n : ℕ) → length (kinds_after rows n) ≡ KINDS
  unfolding kinds_after
  kinds_length n = tally_length (λ i. true) (λ i. kind_of (number_at rows i)) KINDS n

  module _ (i : ℕ) (counts : List ℕ) (e : counts ≡ kinds_after rows i) where
    pub kinds_long : length counts ≡ KINDS
    kinds_long = ap length e ∙ kinds_length i

    pub kinds_end : (lines : ℕ) → lines ≡ lines_in rows → i ≤ lines → lines ≤ i → counts ≡ kinds_after rows (lines_in rows)
    kinds_end lines l h k =
        let n : i ≡ lines_in rows = omega (arith, l) in
        e ∙ ap (kinds_after rows) n

    pub kind_room : (b : ℕ) → Line rows i → b ≤ OTHER → (b < length counts) × (get_or counts b 0 < MOST_LINES)
    unfolding kinds_after
    kind_room b h l = room (λ i. true) (λ i. kind_of (number_at rows i)) KINDS i (lines_in rows) b counts e h.1 h.0 (omega arith)

    pub kind_in : (b number : ℕ) (out : List ℕ) → number ≡ word rows i 0 → Place (kind_of number) OTHER b
        → out ≡ set counts b (get_or counts b 0 + 1) → out ≡ kinds_after rows (i + 1)
    unfolding kinds_after number_at
    kind_in b number out w p o =
        added (λ i. true) (λ i. kind_of (number_at rows i)) KINDS i b counts out e refl (kind_small (number_at rows i)) (p.is ∙ ap kind_of w) o
