-- What the code holds while it reads is what the kept matches come to (`Tallies`): at the start (`start_tallies`), and after each layer whose matches
-- have P (`walk_tallies`), where P is of finite scores with no minus sign only. So the arrays are the definitions of Best, for every record
-- (`tallies_kept`, `tallies_best`).
-- Assumes nothing.
use Prim.Native.Nat.{ℕ, suc, ◌+◌, ◌<◌}
use mathlib.Core.Path.{◌≡◌, refl, sym, ap, ◌∙◌, subst}
use mathlib.Core.Logic.{inl, inr}
use mathlib.Core.Bool.{Bool, true, false, cond, true≢false}
use mathlib.Core.List.{List, [], ◌∷◌, ◌++◌, append_assoc, append-nil}
use native.Mathlib.Nat.{add_assoc}
use native.Mathlib.Omega.{arith}
use lib.ListN.{get_or, set}
use lib.Seq.{get_or-set_same, get_or-set_other}
use lib.Dec.{leb, eqb}
use lib.Ieee.{Float, le, lt}
use borrow.Author.Tests.{eqb-true, eqb-false}
use Rattle.base.specs.Limits.{MOST_LANGUAGES}
use Rattle.base.proofs.Laws.Tests.{by_bool, by_test}
use Rattle.base.proofs.Laws.In.{In, in_front, in_last, in_more}
use Rattle.ratio.specs.Inner.Finite.{Plain}
use Rattle.cd_jaro_meaning.specs.Inner.Similarity.{Good}
use Rattle.cd_best.specs.declared.Standing.{Standing}
use Rattle.cd_best.specs.Inner.Standing.{start, unread, kept_at, best_at, better, keep, walk}
use Rattle.cd_best.specs.Inner.Holding.{Holds, Each}
use Rattle.cd_best.specs.Kept.{ENOUGH, is_sufficient, Hit, sufficient_in, kept_in}
use Rattle.cd_best.specs.Best.{has_match, best_score}
use Rattle.cd_best.proofs.Laws.Holding.{start_holds, keep_holds, none_kept, never}
use Rattle.cd_best.proofs.Laws.BitsOrder.{le_both}
use Rattle.cd_best.proofs.Laws.Best.{Scored, has_hit, best_upper, best_attained}
use Rattle.cd_best.proofs.Laws.Scores.{le_same, le_turned, le_on}

-- s is what the kept matches come to
pub record Tallies (P : ℕ → Float → Type 0) (hits : List Hit) (s : Standing) : Type 0 where
  pub holds : Holds P s
  pub known : (h : Hit) → In h hits → P h.at h.score
  pub count : s.sufficient ≡ sufficient_in hits
  -- each is of a kept record, and not above its best score
  pub upper : (h : Hit) → In h hits → (get_or s.kept h.at false ≡ true) × (le h.score (get_or s.best h.at unread) ≡ true)
  -- the best score of each kept record is that of one of them
  pub attained : (r : ℕ) → get_or s.kept r false ≡ true → In (record { at = r; score = get_or s.best r unread }) hits

sufficient_more : (hits : List Hit) (h : Hit) → sufficient_in hits + is_sufficient h.score ≡ sufficient_in (hits ++ (h ∷ []))
unfolding sufficient_in
sufficient_more [] h = omega arith
sufficient_more (g ∷ hits) h = add_assoc (is_sufficient g.score) (sufficient_in hits) (is_sufficient h.score) ∙ ap (λ (n : ℕ). is_sufficient g.score + n) (sufficient_more hits h)

-- of two answers that the same test picks
pub cond_two : {A B : Type 0} (R : A → B → Type 0) (b : Bool) (x y : A) (u v : B) → R x u → R y v → R (cond b x y) (cond b u v)
cond_two R true x y u v p q = p
cond_two R false x y u v p q = q

module _ (P : ℕ → Float → Type 0) where
  pub start_tallies : Tallies P [] start
  unfolding start sufficient_in
  start_tallies =
      record {
        holds = start_holds P;
        known = λ h i. absurd i;
        count = refl;
        upper = λ h i. absurd i;
        attained = λ r e. never (get_or start.kept r false) (none_kept MOST_LANGUAGES r) e;
      }

  module _ (plain : (r : ℕ) (x : Float) → P r x → Plain x) where
    module _ (s : Standing) (hits : List Hit) (b : Tallies P hits s) (at : ℕ) (score : Float) (l : at < MOST_LANGUAGES) (p : P at score) where
      abbrev was : Bool
      was = get_or s.kept at false

      abbrev old : Float
      old = get_or s.best at unread

      abbrev new : Float
      new = better was old score

      abbrev hit : Hit
      hit = record { at = at; score = score }

      -- what is kept of the record `at`, and of another
      kept_here : get_or (set s.kept at true) at false ≡ true
      kept_here = get_or-set_same s.kept at true false (omega (arith, b.holds.marks, l))

      best_here : get_or (set s.best at new) at unread ≡ new
      best_here = get_or-set_same s.best at new unread (omega (arith, b.holds.scores, l))

      -- the higher is not below the new score, nor below one that was not above the old
      new_upper : (w : Bool) → was ≡ w → le score (better w old score) ≡ true
      new_upper true e = by_test (λ (z : Float). le score z ≡ true) (le score old) old score (λ h. h) (λ h. le_same score (plain at score p))
      new_upper false e = le_same score (plain at score p)

      old_upper : (x : Float) → Plain x → was ≡ true → le x old ≡ true → (w : Bool) → was ≡ w → le x (better w old score) ≡ true
      old_upper x q e h true f =
          let o : Plain old = plain at old (b.holds.each at e) in
          let n : Plain score = plain at score p in
          by_test (λ (z : Float). le x z ≡ true) (le score old) old score (λ k. h) (λ k. le_on x old score q o n h (le_turned score old n o k))
      old_upper x q e h false f = never was f e

      keep_upper : (h : Hit) → In h (hits ++ (hit ∷ []))
          → (get_or (set s.kept at true) h.at false ≡ true) × (le h.score (get_or (set s.best at new) h.at unread) ≡ true)
      keep_upper h i = elim (in_more h hit hits i) [
        | inl e ↦ rw (e, best_here) (kept_here, new_upper was refl)
        | inr j ↦ by_bool (eqb h.at at)
            (λ e. let q : h.at ≡ at = eqb-true h.at at e in
            let u : (was ≡ true) × (le h.score old ≡ true) = rw q at (b.upper h j) in
            rw (q, best_here) (kept_here, old_upper h.score (plain h.at h.score (b.known h j)) u.0 u.1 was refl))
            (λ e. let q : h.at ≡ at → ⊥ = eqb-false h.at at e in
            rw (get_or-set_other s.kept at h.at true false q, get_or-set_other s.best at h.at new unread q) (b.upper h j))
      ]

      -- the higher is the old score or the new one
      new_attained : (w : Bool) → was ≡ w → In (record { at = at; score = better w old score }) (hits ++ (hit ∷ []))
      new_attained true e =
          by_test (λ (z : Float). In (record { at = at; score = z }) (hits ++ (hit ∷ []))) (le score old) old score
          (λ h. in_front _ hits (hit ∷ []) (b.attained at e))
          (λ h. in_last hit hits)
      new_attained false e = in_last hit hits

      keep_attained : (r : ℕ) → get_or (set s.kept at true) r false ≡ true
          → In (record { at = r; score = get_or (set s.best at new) r unread }) (hits ++ (hit ∷ []))
      keep_attained r k =
          by_bool (eqb r at)
          (λ e. rw (eqb-true r at e, best_here) (new_attained was refl))
          (λ e. let q : r ≡ at → ⊥ = eqb-false r at e in
          rw (get_or-set_other s.best at r new unread q)
          (in_front _ hits (hit ∷ []) (b.attained r (rw (get_or-set_other s.kept at r true false q) at k))))

      keep_tallies : Tallies P (hits ++ (hit ∷ [])) (keep s at score)
      unfolding keep
      keep_tallies =
          record {
            holds = keep_holds P s b.holds at score l p;
            known = λ h i. elim (in_more h hit hits i) [
              | inl e ↦ subst (λ (g : Hit). P g.at g.score) (sym e) p
              | inr j ↦ b.known h j
            ];
            count = ap (λ (n : ℕ). n + is_sufficient score) b.count ∙ sufficient_more hits hit;
            upper = keep_upper;
            attained = keep_attained;
          }

    pub walk_tallies : (threshold : Float) (s : Standing) (hits : List Hit) → Tallies P hits s → (ats : List ℕ) (scores : List Float) → Each P ats scores
        → Tallies P (hits ++ kept_in threshold s.sufficient ats scores) (walk threshold s ats scores)
    unfolding walk keep kept_in
    walk_tallies threshold s hits b [] scores e = rw (append-nil hits) b
    walk_tallies threshold s hits b (at ∷ ats) [] e = rw (append-nil hits) b
    walk_tallies threshold s hits b (at ∷ ats) (score ∷ scores) e =
        let hit : Hit = record { at = at; score = score } in
        let k : Standing = keep s at score in
        let n : ℕ = s.sufficient + is_sufficient score in
        let kept : Tallies P (hits ++ (hit ∷ [])) k = keep_tallies s hits b at score (e 0 (omega arith)).0 (e 0 (omega arith)).1 in
        let rest : Each P ats scores = λ i l. e (suc i) (omega (arith, l)) in
        cond_two (λ (h : List Hit) (z : Standing). Tallies P (hits ++ h) z) (lt score threshold)
        (kept_in threshold s.sufficient ats scores) (hit ∷ cond (leb ENOUGH n) [] (kept_in threshold n ats scores))
        (walk threshold s ats scores) (cond (leb ENOUGH n) k (walk threshold k ats scores))
        (walk_tallies threshold s hits b ats scores rest)
        (cond_two (λ (h : List Hit) (z : Standing). Tallies P (hits ++ (hit ∷ h)) z) (leb ENOUGH n)
        [] (kept_in threshold n ats scores)
        k (walk threshold k ats scores)
        kept
        (rw (← append_assoc hits (hit ∷ []) (kept_in threshold n ats scores)) (walk_tallies threshold k (hits ++ (hit ∷ [])) kept ats scores rest)))

module _ {P : ℕ → Float → Type 0} {hits : List Hit} {s : Standing} (b : Tallies P hits s) (good : (r : ℕ) (x : Float) → P r x → Good x) where
  scored : Scored hits
  scored h i = (good h.at h.score (b.known h i)).plain

  pub tallies_kept : (r : ℕ) → kept_at s r ≡ has_match hits r
  tallies_kept r =
      by_bool (has_match hits r)
      (λ e. (b.upper (record { at = r; score = best_score hits r }) (best_attained hits scored r e)).0 ∙ sym e)
      (λ e. by_bool (kept_at s r)
      (λ k. absurd (true≢false (sym (has_hit hits (record { at = r; score = best_at s r }) (b.attained r k)) ∙ e)))
      (λ k. k ∙ sym e))

  pub tallies_best : (r : ℕ) → kept_at s r ≡ true → best_at s r ≡ best_score hits r
  tallies_best r k =
      let old = b.attained r k in
      let new = best_attained hits scored r (sym (tallies_kept r) ∙ k) in
      let g : Good (best_at s r) = good r (best_at s r) (b.known _ old) in
      let h : Good (best_score hits r) = good r (best_score hits r) (b.known _ new) in
      le_both (best_at s r) (best_score hits r) g.plain h.plain g.single h.single
      (best_upper hits scored _ old) (b.upper _ new).1
