-- The walk of a layer's matches under way (`Walking`), and a law for each way it goes on or ends; how many
-- sufficient matches a layer adds at most (`walk_few`).
-- Assumes nothing.
use Prim.Native.Nat.{ℕ, ◌+◌, ◌≤◌, ◌<◌}
use mathlib.Core.Path.{◌≡◌, refl, sym, ◌∙◌}
use mathlib.Core.Bool.{true, false, cond}
use mathlib.Core.List.{List, [], ◌∷◌}
use native.Mathlib.Numerals.{add-one}
use native.Mathlib.Omega.{arith}
use lib.ListN.{length, get_or, set, drop, drop_of_length-le}
use lib.Seq.{drop-cons}
use lib.Dec.{leb}
use lib.Ieee.{Float, le, lt}
use borrow.Author.Tests.{le-leb, lt-leb}
use Rattle.base.proofs.Laws.Numbers.{bump_small}
use Rattle.base.proofs.Laws.Tests.{cond_both}
use Rattle.cd_best.specs.declared.Standing.{Standing}
use Rattle.cd_best.specs.Kept.{ENOUGH, SUFFICIENT, is_sufficient}
use Rattle.cd_best.specs.Inner.Standing.{unread, better, keep, walk}

pub keep_few : (s : Standing) (at : ℕ) (x : Float) → (keep s at x).sufficient ≤ s.sufficient + 1
unfolding keep
keep_few s at x = omega (arith, bump_small (le SUFFICIENT x))

module _ (threshold : Float) (start : Standing) (ats : List ℕ) (scores : List Float) where
  pub record Walking (s : Standing) (i : ℕ) : Type 0 where
    pub below : i ≤ length ats
    pub few : s.sufficient ≤ start.sufficient + i
    pub rest : walk threshold s (drop i ats) (drop i scores) ≡ walk threshold start ats scores

  pub walk_start : Walking start 0
  walk_start = record { below = omega arith; few = omega arith; rest = refl }

  module _ {s : Standing} {i : ℕ} (g : Walking s i) (h : i < length ats) (p : length ats ≡ length scores) where
    turn : walk threshold s (drop i ats) (drop i scores)
        ≡ cond (lt (get_or scores i unread) threshold) (walk threshold s (drop (i + 1) ats) (drop (i + 1) scores))
        (cond (leb ENOUGH (keep s (get_or ats i 0) (get_or scores i unread)).sufficient) (keep s (get_or ats i 0) (get_or scores i unread))
        (walk threshold (keep s (get_or ats i 0) (get_or scores i unread)) (drop (i + 1) ats) (drop (i + 1) scores)))
    unfolding walk
    turn =
        let q : i < length scores = omega arith in
        rw (drop-cons ats i 0 h, drop-cons scores i unread q, add-one i)

    pub walk_below : lt (get_or scores i unread) threshold ≡ true → Walking s (i + 1)
    walk_below e = record { below = omega arith; few = omega (arith, g.few); rest = sym (turn ∙ rw e) ∙ g.rest }

    module _ (e : lt (get_or scores i unread) threshold ≡ false) (t : Standing) (f : t ≡ keep s (get_or ats i 0) (get_or scores i unread)) where
      pub walk_ends : ENOUGH ≤ t.sufficient → t ≡ walk threshold start ats scores
      walk_ends l =
          let k : leb ENOUGH (keep s (get_or ats i 0) (get_or scores i unread)).sufficient ≡ true = le-leb ENOUGH _ (rw f at l) in
          f ∙ sym (turn ∙ rw (e, k)) ∙ g.rest

      pub walk_on : t.sufficient < ENOUGH → Walking t (i + 1)
      walk_on l =
          let k : leb ENOUGH (keep s (get_or ats i 0) (get_or scores i unread)).sufficient ≡ false = lt-leb ENOUGH _ (rw f at l) in
          record {
            below = omega arith;
            few = rw f (omega (arith, g.few, keep_few s (get_or ats i 0) (get_or scores i unread)));
            rest = rw f (sym (turn ∙ rw (e, k)) ∙ g.rest);
          }

  pub walk_end : {s : Standing} {i : ℕ} → Walking s i → length ats ≤ i → s ≡ walk threshold start ats scores
  unfolding walk
  walk_end {s} {i} g h = rw (drop_of_length-le ats h) at g.rest

pub keep_is : (s : Standing) (at : ℕ) (score : Float) (b : Float) (o : ℕ) → b ≡ better (get_or s.kept at false) (get_or s.best at unread) score → o ≡ is_sufficient score
    → record { sufficient = s.sufficient + o; kept = set s.kept at true; best = set s.best at b } ≡ keep s at score
unfolding keep
keep_is s at score b o e f = rw (e, f)

-- a layer adds at most as many sufficient matches as it has matches
pub walk_few : (threshold : Float) (s : Standing) (ats : List ℕ) (scores : List Float)
    → (walk threshold s ats scores).sufficient ≤ s.sufficient + length ats
unfolding walk
walk_few threshold s [] scores = omega arith
walk_few threshold s (at ∷ ats) [] = omega arith
walk_few threshold s (at ∷ ats) (score ∷ scores) =
    let k : Standing = keep s at score in
    cond_both (λ (z : Standing). z.sufficient ≤ s.sufficient + length (at ∷ ats)) (lt score threshold)
    (walk threshold s ats scores)
    (cond (leb ENOUGH k.sufficient) k (walk threshold k ats scores))
    (omega (arith, walk_few threshold s ats scores))
    (cond_both (λ (z : Standing). z.sufficient ≤ s.sufficient + length (at ∷ ats)) (leb ENOUGH k.sufficient)
    k
    (walk threshold k ats scores)
    (omega (arith, keep_few s at score))
    (omega (arith, keep_few s at score, walk_few threshold k ats scores)))
