-- Laws of the best scores, where all scores are finite and have no minus sign: a kept match's language has a match (`has_hit`), with no lower best
-- score (`best_upper`), and the best score of a language that has a match is that of one of its kept matches (`best_attained`).
-- Assumes nothing.
use Prim.Native.Nat.{ℕ}
use mathlib.Core.Path.{◌≡◌, refl, sym, ap, ◌∙◌}
use mathlib.Core.Logic.{inl, inr}
use mathlib.Core.Bool.{Bool, true, false, ◌||◌, true≢false}
use mathlib.Core.List.{List, [], ◌∷◌}
use lib.Dec.{eqb}
use lib.Ieee.{Float, of_bits, binary32, le}
use borrow.Author.Tests.{eqb-true, eq-eqb}
use Rattle.base.proofs.Laws.Tests.{by_bool, by_test, cond_both}
use Rattle.base.proofs.Laws.In.{In}
use Rattle.ratio.specs.Inner.Finite.{Plain}
use Rattle.ratio.proofs.Laws.Finite.{plain_of}
use Rattle.cd_best.specs.Kept.{Hit}
use Rattle.cd_best.specs.Best.{higher, has_match, best_score}
use Rattle.cd_best.proofs.Laws.Scores.{le_same, le_turned, le_on}

-- the scores are finite, with no minus sign
abbrev pub Scored : List Hit → Type 0
Scored hits = (h : Hit) → In h hits → Plain h.score

zero_plain : Plain (of_bits binary32 0)
unfolding of_bits
zero_plain = plain_of (of_bits binary32 0) 0 (refl, refl)

pub has_hit : (hits : List Hit) (h : Hit) → In h hits → has_match hits h.at ≡ true
unfolding has_match
has_hit [] h i = absurd i
has_hit (g ∷ hits) h (inl e) = rw (e, eq-eqb g.at g.at refl)
has_hit (g ∷ hits) h (inr i) = rw (has_hit hits h i) (or_true (eqb g.at h.at))
  where
    or_true : (b : Bool) → (b || true) ≡ true
    or_true true = refl
    or_true false = refl

-- of no match it is +0.0
best_none : (hits : List Hit) (r : ℕ) → has_match hits r ≡ false → best_score hits r ≡ of_bits binary32 0
unfolding has_match best_score
best_none [] r e = refl
best_none (h ∷ hits) r e =
    by_bool (eqb h.at r)
    (λ q. absurd (true≢false (rw q at e)))
    (λ q. rw q (best_none hits r (rw q at e)))

best_plain : (hits : List Hit) (r : ℕ) → Scored hits → Plain (best_score hits r)
unfolding best_score
best_plain [] r p = zero_plain
best_plain (h ∷ hits) r p =
    let b : Float = best_score hits r in
    let q : Plain b = best_plain hits r (λ g i. p g (inr i)) in
    cond_both Plain (eqb h.at r) (higher h.score b) b (cond_both Plain (le b h.score) h.score b (p h (inl refl)) q) q

pub best_upper : (hits : List Hit) → Scored hits → (h : Hit) → In h hits → le h.score (best_score hits h.at) ≡ true
unfolding best_score
best_upper [] p h i = absurd i
best_upper (g ∷ hits) p h (inl e) =
    let b : Float = best_score hits g.at in
    let q : Plain b = best_plain hits g.at (λ k i. p k (inr i)) in
    let n : Plain g.score = p g (inl refl) in
    rw (e, eq-eqb g.at g.at refl)
    (by_test (λ (z : Float). le g.score z ≡ true) (le b g.score) g.score b (λ l. le_same g.score n) (λ l. le_turned b g.score q n l))
best_upper (g ∷ hits) p h (inr i) =
    let b : Float = best_score hits h.at in
    let q : Plain b = best_plain hits h.at (λ k j. p k (inr j)) in
    let u : le h.score b ≡ true = best_upper hits (λ k j. p k (inr j)) h i in
    cond_both (λ (z : Float). le h.score z ≡ true) (eqb g.at h.at) (higher g.score b) b
    (by_test (λ (z : Float). le h.score z ≡ true) (le b g.score) g.score b
    (λ l. le_on h.score b g.score (p h (inr i)) q (p g (inl refl)) u l) (λ l. u))
    u

pub best_attained : (hits : List Hit) → Scored hits → (r : ℕ) → has_match hits r ≡ true → In (record { at = r; score = best_score hits r }) hits
unfolding has_match best_score
best_attained [] p r e = absurd (true≢false (sym e))
best_attained (h ∷ hits) p r e =
    let b : Float = best_score hits r in
    let rest = best_attained hits (λ k j. p k (inr j)) r in
    by_test (λ (z : Float). In (record { at = r; score = z }) (h ∷ hits)) (eqb h.at r) (higher h.score b) b
    (λ q.
    by_test (λ (z : Float). In (record { at = r; score = z }) (h ∷ hits)) (le b h.score) h.score b
    (λ l. inl (ap (λ (k : ℕ). record { at = k; score = h.score }) (sym (eqb-true h.at r q))))
    (λ l. by_bool (has_match hits r)
    (λ m. inr (rest m))
    (λ m. absurd (true≢false (sym (p h (inl refl)).not_negative ∙ ap (λ (z : Float). le z h.score) (sym (best_none hits r m)) ∙ l)))))
    (λ q. inr (rest (rw q at e)))
