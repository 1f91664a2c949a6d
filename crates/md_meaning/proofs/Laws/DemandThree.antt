-- Demand 3, proved: the score of every accepted text is `Certain` (`demand_three`).
-- Assumes nothing.
use Rattle.std.specs.Prelude.{Result, Ok, Some}
use Prim.Native.Nat.{ℕ, ◌+◌, ◌≤◌, ◌<◌}
use mathlib.Core.Path.{◌≡◌, sym}
use mathlib.Core.Bool.{true, false, true≢false}
use mathlib.Core.List.{List}
use native.Mathlib.Omega.{arith}
use lib.Dec.{ltb}
use lib.Ieee.{Float}
use lib.ListN.{length}
use borrow.Author.Tests.{ltb-true, ltb-false}
use Rattle.base.specs.declared.Refusal.{Refusal}
use Rattle.base.proofs.Laws.Tests.{by_bool, and_r}
use Rattle.base.proofs.Laws.First.{first_before, first_found}
use Rattle.base.specs.Limits.{LONGEST_TEXT}
use Rattle.md_eight.proofs.Loops.Detectors.{fractions_proper}
use Rattle.ratio.specs.Inner.Eight.{EachProper}
use Rattle.ratio.specs.Finite.{Finite}
use Rattle.ratio_demand.specs.Demand.{Reached, Missed}
use Rattle.ratio_demand.proofs.Laws.Demand.{near, reached, missed}
use Rattle.md_meaning.specs.declared.Score.{Score}
use Rattle.md_meaning.specs.Text.{total, checkpoint}
use Rattle.md_meaning.specs.Scan.{state_at, stops, reaches, sum_of, scored, stop_of, accepted_score}
use Rattle.md_meaning.proofs.Laws.Scan.{state_within}
use Rattle.md_meaning.specs.MessRatio.{mess_ratio}
use Rattle.md_meaning.proofs.Laws.Accepted.{scored_faultless}
use Rattle.md_meaning.specs.DemandThree.{fractions_at, Certain}

module _ (text : List ℕ) (threshold : Float) (classes pairs : List ℕ) (short : length text ≤ LONGEST_TEXT) (F : Finite threshold) where
  told : (s r : Score) → ◌≡◌ {A = Result Score Refusal} (Ok r) (Ok s) → Certain text threshold classes pairs r → Certain text threshold classes pairs s
  told s r e c = let z : r ≡ s = cc in rw z at c

  proper : (i : ℕ) → i ≤ total text → EachProper (fractions_at classes pairs text i)
  proper i h = fractions_proper i (state_at classes pairs text i) (state_within classes pairs text i) (omega arith)

  -- the test at a checkpoint, as an inequality
  reached_there : (i : ℕ) → i < total text → stops classes pairs text (Some threshold) i ≡ true → Reached threshold (fractions_at classes pairs text (i + 1))
  unfolding stops reaches sum_of
  reached_there i h e = reached _ (proper (i + 1) (omega arith)) threshold F (and_r (checkpoint (length text) i) _ e)

  missed_there : (i : ℕ) → i < total text → checkpoint (length text) i ≡ true → stops classes pairs text (Some threshold) i ≡ false
      → Missed threshold (fractions_at classes pairs text (i + 1))
  unfolding stops reaches sum_of
  missed_there i h c e = missed _ (proper (i + 1) (omega arith)) threshold F (rw c at e)

  before_stop : (i : ℕ) → i < total text → i < stop_of classes pairs text (Some threshold) → checkpoint (length text) i ≡ true
      → Missed threshold (fractions_at classes pairs text (i + 1))
  before_stop i h l c = missed_there i h c (first_before (stops classes pairs text (Some threshold)) (total text) i l)

  certain_stopped : (s : Score) → stop_of classes pairs text (Some threshold) < total text
      → scored (state_at classes pairs text (stop_of classes pairs text (Some threshold) + 1)) (stop_of classes pairs text (Some threshold) + 1) true ≡ Ok s
      → Certain text threshold classes pairs s
  unfolding scored sum_of
  certain_stopped s h e =
      let k = stop_of classes pairs text (Some threshold) in
      told s _ e
      (record {
        near = near _ (proper (k + 1) (omega arith));
        stopped = λ t. reached_there k h (first_found (stops classes pairs text (Some threshold)) (total text) h);
        earlier = λ i l c. before_stop i (omega arith) (omega arith) c;
        never = λ t. absurd (true≢false t);
      })

  certain_whole : (s : Score) → total text ≤ stop_of classes pairs text (Some threshold)
      → scored (state_at classes pairs text (total text)) (total text) false ≡ Ok s
      → Certain text threshold classes pairs s
  unfolding scored sum_of
  certain_whole s h e =
      told s _ e
      (record {
        near = near _ (proper (total text) (omega arith));
        stopped = λ t. absurd (true≢false (sym t));
        earlier = λ i l c. before_stop i (omega arith) (omega arith) c;
        never = λ t i l c. before_stop i l (omega arith) c;
      })

pub demand_three : (text : List ℕ) (threshold : Float) (classes pairs : List ℕ) (s : Score)
    → Finite threshold → mess_ratio text threshold classes pairs ≡ Ok s → Certain text threshold classes pairs s
unfolding accepted_score
demand_three text threshold classes pairs s F e =
    let a = scored_faultless text threshold classes pairs s e in
    let short = a.faultless.short in
    by_bool (ltb (stop_of classes pairs text (Some threshold)) (total text))
    (λ t. certain_stopped text threshold classes pairs short F s (ltb-true _ _ t) (rw t at a.is))
    (λ t. certain_whole text threshold classes pairs short F s (ltb-false _ _ t) (rw t at a.is))
