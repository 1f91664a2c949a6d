-- The counts of every score say what CountsSo asks: with a threshold, at the default, and without stopping (`counts_so`, `counts_so_default`,
-- `counts_so_whole`).
-- Assumes nothing.
use Rattle.std.specs.Prelude.{Result, Ok, Option, Some, None}
use Prim.Native.Nat.{ℕ, ◌+◌, ◌≤◌}
use mathlib.Core.Path.{◌≡◌, ◌∙◌}
use mathlib.Core.Bool.{Bool}
use mathlib.Core.List.{List}
use native.Mathlib.Omega.{arith}
use lib.Dec.{ltb}
use lib.Ieee.{Float}
use lib.ListN.{length}
use borrow.Author.Tests.{ltb-true}
use Rattle.base.specs.declared.Refusal.{Refusal}
use Rattle.base.proofs.Laws.Tests.{by_bool}
use Rattle.base.specs.Limits.{LONGEST_TEXT}
use Rattle.md_eight.specs.Detectors.{counts}
use Rattle.md_eight.proofs.Loops.Detectors.{within_countable, counts_at_most}
use Rattle.ratio.proofs.Laws.Shown.{each_tells, each_shares}
use Rattle.md_meaning.specs.declared.Score.{Score}
use Rattle.md_meaning.specs.Text.{total}
use Rattle.md_meaning.specs.Scan.{state_at, scored, stop_of, accepted_score}
use Rattle.md_meaning.specs.MessRatio.{DEFAULT_THRESHOLD, mess_ratio, mess_ratio_default, whole_score}
use Rattle.md_meaning.specs.Counts.{CountsSo}
use Rattle.md_meaning.proofs.Laws.Scan.{state_within}
use Rattle.md_meaning.proofs.Laws.MessRatio.{default_same}
use Rattle.md_meaning.proofs.Laws.Accepted.{scored_faultless}
use Rattle.md_meaning.proofs.Laws.Default.{whole_faultless}

module _ (text classes pairs : List ℕ) (short : length text ≤ LONGEST_TEXT) where
  same : (s r : Score) → ◌≡◌ {A = Result Score Refusal} (Ok r) (Ok s) → CountsSo text classes pairs r → CountsSo text classes pairs s
  same s r e c = let z : r ≡ s = cc in rw z at c

  counts_at : (k : ℕ) → k ≤ total text → (early : Bool) (s : Score) → scored (state_at classes pairs text k) k early ≡ Ok s → CountsSo text classes pairs s
  unfolding scored
  counts_at k h early s e =
      let w = state_within classes pairs text k in
      let c = within_countable k (state_at classes pairs text k) w (omega arith) in
      same s _ e
      (record {
        tells = each_tells (counts (state_at classes pairs text k)) c;
        shares = each_shares (counts (state_at classes pairs text k)) c;
        at_most = counts_at_most k (state_at classes pairs text k) w;
      })

  accepted_so : (limit : Option Float) (s : Score) → accepted_score classes pairs text limit ≡ Ok s → CountsSo text classes pairs s
  unfolding accepted_score
  accepted_so limit s e =
      let k = stop_of classes pairs text limit in
      by_bool (ltb k (total text))
      (λ t. let l = ltb-true k (total text) t in counts_at (k + 1) (omega arith) _ s (rw t at e))
      (λ t. counts_at (total text) (omega arith) _ s (rw t at e))

module _ (text classes pairs : List ℕ) (s : Score) where
  pub counts_so : (threshold : Float) → mess_ratio text threshold classes pairs ≡ Ok s → CountsSo text classes pairs s
  counts_so threshold e =
      let a = scored_faultless text threshold classes pairs s e in
      accepted_so text classes pairs a.faultless.short (Some threshold) s a.is

  pub counts_so_default : mess_ratio_default text classes pairs ≡ Ok s → CountsSo text classes pairs s
  counts_so_default e = counts_so DEFAULT_THRESHOLD (default_same text classes pairs ∙ e)

  pub counts_so_whole : whole_score text classes pairs ≡ Ok s → CountsSo text classes pairs s
  counts_so_whole e =
      let a = whole_faultless text classes pairs s e in
      accepted_so text classes pairs a.faultless.short None s a.is
