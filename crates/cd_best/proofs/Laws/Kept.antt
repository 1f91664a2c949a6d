-- Of the matches that a layer keeps: none is below the threshold (`kept_above`), and "each later layer ends after its first kept match" (`kept_later`).
-- Assumes nothing.
use Prim.Native.Nat.{ℕ, ◌+◌, ◌≤◌}
use mathlib.Core.Path.{◌≡◌}
use mathlib.Core.Logic.{inl, inr}
use mathlib.Core.Bool.{true, false, cond}
use mathlib.Core.List.{List, [], ◌∷◌}
use native.Mathlib.Omega.{arith}
use lib.ListN.{length}
use lib.Dec.{leb}
use lib.Ieee.{Float, lt}
use borrow.Author.Tests.{le-leb}
use Rattle.base.proofs.Laws.Tests.{by_test, cond_both}
use Rattle.base.proofs.Laws.In.{In}
use Rattle.cd_best.specs.Kept.{ENOUGH, is_sufficient, Hit, kept_in}

pub kept_above : (threshold : Float) (n : ℕ) (ats : List ℕ) (scores : List Float) (h : Hit) → In h (kept_in threshold n ats scores)
    → lt h.score threshold ≡ false
unfolding kept_in
kept_above threshold n [] scores h i = absurd i
kept_above threshold n (at ∷ ats) [] h i = absurd i
kept_above threshold n (at ∷ ats) (score ∷ scores) h i =
    let m : ℕ = n + is_sufficient score in
    by_test (λ (l : List Hit). In h l → lt h.score threshold ≡ false) (lt score threshold)
    (kept_in threshold n ats scores)
    (record { at = at; score = score } ∷ cond (leb ENOUGH m) [] (kept_in threshold m ats scores))
    (λ e j. kept_above threshold n ats scores h j)
    (λ e j. elim j [
      | inl q ↦ rw q e
      | inr k ↦ cond_both (λ (l : List Hit). In h l → lt h.score threshold ≡ false) (leb ENOUGH m) [] (kept_in threshold m ats scores)
          (λ z. absurd z) (λ z. kept_above threshold m ats scores h z) k
    ])
    i

pub kept_later : (threshold : Float) (n : ℕ) → ENOUGH ≤ n → (ats : List ℕ) (scores : List Float) → length (kept_in threshold n ats scores) ≤ 1
unfolding kept_in
kept_later threshold n h [] scores = omega arith
kept_later threshold n h (at ∷ ats) [] = omega arith
kept_later threshold n h (at ∷ ats) (score ∷ scores) =
    let m : ℕ = n + is_sufficient score in
    let over : leb ENOUGH m ≡ true = le-leb ENOUGH m (omega (arith, h)) in
    cond_both (λ (l : List Hit). length l ≤ 1) (lt score threshold)
    (kept_in threshold n ats scores)
    (record { at = at; score = score } ∷ cond (leb ENOUGH m) [] (kept_in threshold m ats scores))
    (kept_later threshold n h ats scores)
    (rw over (omega arith))
